-- What is proved of the machine without bounds, for every table, every text and values of every type V.
use Rattle.std.specs.Prelude.{◌≡◌, ℕ, ◌<◌, ◌≤◌, Bool, true, List, [], ◌∷◌, ◌++◌, length, ◌≢◌}
use Rattle.syntax.specs.declared.Token.{Token}
use Rattle.syntax.specs.Grammar.{Kinded}
use Rattle.syntax.specs.Trees.{Tree, TreeOf, Makes, size, reach}
use Rattle.syntax.specs.Values.{Algebra, read}
use Rattle.table.specs.Automaton.{Automaton}
use Rattle.table.specs.Lawful.{Lawful}
use Rattle.table.specs.Validity.{SafeUnderHints, CompleteUnderHints}
use Rattle.theory.specs.Machine.{Core, core, fresh, on, accepts, rejects, slips, move, moves, Leads}
use Rattle.theory.specs.Maps.{tree_algebra, Homomorphism, core_map, move_map}
use Rattle.table.specs.declared.Slip.{Slip}

-- naturality: moves with mapped values are the moves, with their values mapped
abbrev pub Natural : Type 0 → Type 0 → Type 0
Natural V W = (M : Automaton) (R : Algebra V) (S : Algebra W) (h : V → W) → Homomorphism R S h →
    (ended : Bool) (n : ℕ) (c : Core V) → moves S M ended n (core_map h c) ≡ move_map h (moves R M ended n c)

-- to read a tree takes the machine over trees to any other
abbrev pub ReadingMaps : Type 0 → Type 0
ReadingMaps V = (R : Algebra V) → Homomorphism tree_algebra R (read R)

-- soundness

-- in n moves on w no more than L cells are ever used
abbrev pub Within : {V : Type 0} → Algebra V → Automaton → Bool → List Token → ℕ → ℕ → Type 0
Within {V} R M ended w n L =
    (m : ℕ) (c : Core V) → m ≤ n → moves R M ended m (fresh w) ≡ on c → length c.cells ≤ L

-- the text w has ended and was read to c in n moves and L cells, as the one value of a tree of it
pub record TreeAccepted {V : Type 0} (R : Algebra V) (M : Automaton) (ended : Bool) (w : List Token) (n L : ℕ)
    (c : Core V) : Type 0 where
  pub tree : Tree
  pub of_text : TreeOf M.grammar w tree
  pub value_is : c.values ≡ read R tree ∷ []
  pub all_taken : c.rest ≡ []
  pub has_ended : ended ≡ true
  pub steps_are : size tree ≡ n
  pub cells_reach : reach tree ≤ L

-- a lawful table accepts nothing else
abbrev pub AcceptsOnlyTrees : Type 0 → Type 0
AcceptsOnlyTrees V = (states : ℕ) (M : Automaton) → Lawful states M →
    (R : Algebra V) (ended : Bool) (w : List Token) (n L : ℕ) (c : Core V) → Kinded w → Within R M ended w n L →
    moves R M ended n (fresh w) ≡ on c → move R M ended c ≡ accepts → TreeAccepted R M ended w n L c

-- safety

-- no run from the empty stack comes to a slip
abbrev pub NoSlips : {V : Type 0} → Algebra V → Automaton → Type 0
NoSlips {V} R M = (ended : Bool) (n : ℕ) (w : List Token) (c : Core V) → moves R M ended n (fresh w) ≡ on c →
    (k : Slip) → move R M ended c ≢ slips k

-- a table that is safe under some hints comes to none
abbrev pub NeverSlips : Type 0 → Type 0
NeverSlips V = (states : ℕ) (M : Automaton) → SafeUnderHints states M → (R : Algebra V) → NoSlips R M

-- completeness

-- the tree t of w is read in as many moves as its size, in no more cells than its reach, and then accepted
pub record TreeRead {V : Type 0} (R : Algebra V) (M : Automaton) (w : List Token) (t : Tree) : Type 0 where
  pub last : ℕ
  pub leads : Leads R M (reach t) true (size t) (fresh w) (core (last ∷ []) (read R t ∷ []) [])
  pub accepted : move R M true (core (last ∷ []) (read R t ∷ []) []) ≡ accepts

-- every tree of every text is read
abbrev pub ReadsAll : {V : Type 0} → Algebra V → Automaton → Type 0
ReadsAll R M = (w : List Token) (t : Tree) → TreeOf M.grammar w t → TreeRead R M w t

-- by a table that is complete under some hints and comes to no slip
abbrev pub ReadsEveryTree : Type 0 → Type 0
ReadsEveryTree V =
    (states : ℕ) (M : Automaton) → CompleteUnderHints states M → (R : Algebra V) → NoSlips R M → ReadsAll R M

-- what follows where every tree is read

-- a text has one tree at most
abbrev pub OneTree : Type 0
OneTree = (M : Automaton) → ReadsAll tree_algebra M →
    (w : List Token) (t u : Tree) → TreeOf M.grammar w t → TreeOf M.grammar w u → t ≡ u

-- a run on a text of the tree t has come to d by k moves: it outgrows neither t's size nor its reach, and reads t
pub record OnTheWay {V : Type 0} (R : Algebra V) (M : Automaton) (t : Tree) (k : ℕ) (d : Core V) : Type 0 where
  pub steps : k ≤ size t
  pub goes_on : k < size t → (e : Core V) × (move R M true d ≡ on e) × (length e.cells ≤ reach t)
  pub ends_well : k ≡ size t → move R M true d ≡ accepts

-- where every tree is read, every run on its text is on the way to it
abbrev pub StaysOnTheWay : Type 0 → Type 0
StaysOnTheWay V = (M : Automaton) (R : Algebra V) → ReadsAll R M →
    (w : List Token) (t : Tree) → TreeOf M.grammar w t →
    (k : ℕ) (d : Core V) → moves R M true k (fresh w) ≡ on d → OnTheWay R M t k d

-- with u taken and r to come nothing fits: no text begins with u and a token of the next kind, nor is u one at the end
pub record Refused (M : Automaton) (ended : Bool) (u r : List Token) : Type 0 where
  pub token_refused : (k : Token) (w : List Token) → r ≡ k ∷ w →
      (l : Token) (v : List Token) → l.kind ≡ k.kind → Makes M.grammar (u ++ (l ∷ v)) → ⊥
  pub end_refused : ended ≡ true → r ≡ [] → Makes M.grammar u → ⊥

-- what is rejected is hopeless
abbrev pub RejectsTheHopeless : Type 0 → Type 0
RejectsTheHopeless V = (M : Automaton) (R : Algebra V) → ReadsAll R M →
    (ended : Bool) (n : ℕ) (u r : List Token) (c : Core V) → moves R M ended n (fresh (u ++ r)) ≡ on c → c.rest ≡ r →
    move R M ended c ≡ rejects → Refused M ended u r
