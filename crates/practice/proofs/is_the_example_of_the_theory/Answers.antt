use Rattle.practice.proofs.is_the_example_of_the_theory.Goals as goal
use Rattle.practice.proofs.Same.{same_table}

pub returns : goal.returns
returns c = same_table
