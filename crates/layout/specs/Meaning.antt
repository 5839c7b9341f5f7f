-- The table and the hints that a sheet holds: each question is answered by the record with its key.
use Rattle.std.specs.Prelude.{ℕ, false, cond, [], Some, None, Option, nat_eq}
use Rattle.table.specs.declared.Action.TheVariants.{Reject}
use Rattle.table.specs.Automaton.{Automaton}
use Rattle.table.specs.Hints.{Hints, deepest}
use Rattle.layout.specs.declared.Letter.{Letter}
use Rattle.layout.specs.declared.Letter.TheVariants.{A, D, G, I, K, N, P, S}
use Rattle.layout.specs.Choices.{mapped, given, present, first, run}
use Rattle.layout.specs.Records.{Sheet, count, record_at, byte, has_key, set_in, maybe_symbol, symbols, rule_in}
use Rattle.layout.specs.Records.{action_in}

-- the place of the first record with a key
unfoldable pub placed : Sheet → Letter → ℕ → ℕ → ℕ → Option ℕ
placed sh l a b c = first (λ i. cond (has_key l a b c (record_at sh i)) (Some i) None) (count sh)

abbrev pub automaton : Sheet → Automaton
automaton sh = record {
  grammar = λ p. mapped (λ i. rule_in (record_at sh i)) (placed sh P p 0 0);
  incoming = λ s. given None (λ i. maybe_symbol (byte sh i 4)) (placed sh S s 0 0);
  default = λ s. mapped (λ i. byte sh i 4) (placed sh D s 0 0);
  action = λ s a. given Reject (λ i. action_in (record_at sh i)) (placed sh A s a 0);
  goto = λ s n. mapped (λ i. byte sh i 4) (placed sh G s n 0);
}

abbrev pub hints : Sheet → Hints
hints sh = record {
  past_symbols = λ s. given [] (λ i. symbols (record_at sh i) (byte sh i 5)) (placed sh S s 0 0);
  past_sets = λ s. run deepest (λ d. mapped (λ i. set_in sh.format (record_at sh i)) (placed sh K s d 0));
  look_aheads = λ s p d. given (λ x. false) (λ i. set_in sh.format (record_at sh i)) (placed sh I s p d);
  nullable = λ n. given false (λ i. nat_eq (byte sh i 4) 1) (placed sh N n 0 0);
  firsts = λ n. given (λ x. false) (λ i. set_in sh.format (record_at sh i)) (placed sh N n 0 0);
  known = λ n. present (placed sh N n 0 0);
}
