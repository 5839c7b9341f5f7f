-- The machine of an LR(1) table without bounds, over values of any type V: over trees it builds the tree.
use Rattle.std.specs.Prelude.{◌≡◌, ℕ, zero, suc, ◌≤◌, Bool, true, false, cond, ◌&&◌, List, [], ◌∷◌, reverse, length, take, drop, Some, None, Ok, Err, Option, Result, ◌==◌, nat_le}
use Rattle.syntax.specs.declared.Token.{Token}
use Rattle.syntax.specs.declared.Symbol.{Symbol}
use Rattle.syntax.specs.declared.Symbol.TheVariants.{Terminal, Nonterminal}
use Rattle.syntax.specs.Grammar.{Rule, start}
use Rattle.syntax.specs.Values.{Algebra}
use Rattle.table.specs.declared.Action.{Action}
use Rattle.table.specs.declared.Action.TheVariants.{Shift, Reduce, Accept, Reject}
use Rattle.table.specs.Automaton.{Automaton}
use Rattle.table.specs.declared.Slip.{Slip}
use Rattle.table.specs.declared.Slip.TheVariants.{FewCells, WrongSymbol, NoGoto, AtEnd}

-- what is found to do

-- what a look at the tokens to come shows: the next kind; behind them END, which is 0, or nothing where a fault is
abbrev pub seen : Bool → List Token → Option ℕ
seen ended [] = cond ended (Some 0) None
seen ended (t ∷ ts) = Some t.kind

-- the action on what is shown
abbrev pub looked : (ℕ → Action) → Option ℕ → Option Action
looked act None = None
looked act (Some a) = Some (act a)

-- the reduction of a default goes before it
abbrev pub unless_default : Option ℕ → Option Action → Option Action
unless_default None o = o
unless_default (Some p) o = Some (Reduce p)

-- the action in state s: a state with a default does not look, and any other has none where nothing is shown
abbrev pub found : Automaton → ℕ → Option ℕ → Option Action
found M s sight = unless_default (M.default s) (looked (M.action s) sight)

-- whether cells carry what a reduce or an accept wants

-- two symbols are the same
abbrev pub same_symbol : Symbol → Symbol → Bool
same_symbol (Terminal a) (Terminal b) = a == b
same_symbol (Terminal a) (Nonterminal b) = false
same_symbol (Nonterminal a) (Terminal b) = false
same_symbol (Nonterminal a) (Nonterminal b) = a == b

-- the symbol that enters a state, if one does, is X
abbrev pub enters : Symbol → Option Symbol → Bool
enters X None = false
enters X (Some Y) = same_symbol Y X

-- the states are entered, one for one and in order, by the symbols
abbrev pub carry : Automaton → List ℕ → List Symbol → Bool
carry M [] [] = true
carry M [] (X ∷ α) = false
carry M (s ∷ ss) [] = false
carry M (s ∷ ss) (X ∷ α) = enters X (M.incoming s) && carry M ss α

-- the cells are one, and the start entered it
abbrev pub carry_start : Automaton → List ℕ → Bool
carry_start M ss = carry M ss (start ∷ [])

-- a reduce with no goto slips
abbrev pub landed : Option ℕ → Result ℕ Slip
landed None = Err NoGoto
landed (Some t) = Ok t

-- where a reduce by r leads that finds the states `top`, in order, over `below`: a state, or a slip, the first of too few
-- cells, a wrong symbol and no goto
abbrev pub landing : Automaton → Rule → Bool → List ℕ → ℕ → Result ℕ Slip
landing M r enough top below =
    cond enough (cond (carry M top r.right) (landed (M.goto below r.left)) (Err WrongSymbol)) (Err FewCells)

-- what a move does

-- states and values, the newest first, and the tokens to come
pub record Core (V : Type 0) : Type 0 where
  pub cells : List ℕ
  pub values : List V
  pub rest : List Token

-- a core of these parts
abbrev pub core : {V : Type 0} → List ℕ → List V → List Token → Core V
core ss vs w = record { cells = ss; values = vs; rest = w }

-- no cell used, the whole text to come
abbrev pub fresh : {V : Type 0} → List Token → Core V
fresh w = core [] [] w

-- the newest cell, else the initial state
abbrev pub current : List ℕ → ℕ
current [] = 0
current (s ∷ ss) = s

-- what a move comes to
pub data Move (V : Type 0) : Type 0 where
  on : Core V → Move V
  accepts : Move V
  rejects : Move V
  slips : Slip → Move V
  -- nothing was shown where a look was needed
  starves : Move V

-- f after a move that went on
abbrev pub and_then : {V : Type 0} → Move V → (Core V → Move V) → Move V
and_then (on c) f = f c
and_then accepts f = accepts
and_then rejects f = rejects
and_then (slips k) f = slips k
and_then starves f = starves

module _ {V : Type 0} (R : Algebra V) where
  -- the next token becomes a leaf (none is there only where a table shifts at END: a slip like an accept too early)
  abbrev pub shift_to : ℕ → List ℕ → List V → List Token → Move V
  shift_to t ss vs [] = slips AtEnd
  shift_to t ss vs (k ∷ w) = on (core (t ∷ ss) (R.leaf_rule k ∷ vs) w)

  -- the k newest values become a node of production p, and its cell is t
  abbrev pub with_node : ℕ → ℕ → ℕ → Core V → Core V
  with_node p k t c =
      let v = R.node_rule p (reverse (take k c.values)) in
      core (t ∷ drop k c.cells) (v ∷ drop k c.values) c.rest

  -- a reduce goes on where it lands, or slips
  abbrev pub land : ℕ → ℕ → Core V → Result ℕ Slip → Move V
  land p k c (Err n) = slips n
  land p k c (Ok t) = on (with_node p k t c)

-- the landing of a reduce by r from cells
abbrev pub landing_of : Automaton → Rule → List ℕ → Result ℕ Slip
landing_of M r ss =
    let k = length r.right in
    landing M r (nat_le k (length ss)) (reverse (take k ss)) (current (drop k ss))

-- an accept wants the start alone, else it slips
abbrev pub accept_with : {V : Type 0} → Automaton → List ℕ → Move V
accept_with M ss = cond (carry_start M ss) accepts (slips AtEnd)

module _ {V : Type 0} (R : Algebra V) (M : Automaton) where
  -- a reduce by production p, which a lawful table has
  abbrev pub reduce_by : ℕ → Option Rule → Core V → Move V
  reduce_by p None c = slips FewCells
  reduce_by p (Some r) c = land R p (length r.right) c (landing_of M r c.cells)

  -- what an action makes of c; with none it starves
  abbrev pub perform : Core V → Option Action → Move V
  perform c None = starves
  perform c (Some (Shift t)) = shift_to R t c.cells c.values c.rest
  perform c (Some (Reduce p)) = reduce_by p (M.grammar p) c
  perform c (Some Accept) = accept_with M c.cells
  perform c (Some Reject) = rejects

  -- one move; `ended` says that END stands behind the tokens to come, and no fault
  abbrev pub move : Bool → Core V → Move V
  move ended c = perform c (found M (current c.cells) (seen ended c.rest))

  -- n moves in a row: the last core if all go on, else the first that does not
  abbrev pub moves : Bool → ℕ → Core V → Move V
  moves ended zero c = on c
  moves ended (suc n) c = and_then (move ended c) (λ d. moves ended n d)

  -- n moves lead from c to e, and after none of them more than L cells are in use
  abbrev pub Leads : ℕ → Bool → ℕ → Core V → Core V → Type 0
  Leads L ended zero c e = c ≡ e
  Leads L ended (suc n) c e = (d : Core V) × (move ended c ≡ on d) × (length d.cells ≤ L) × Leads L ended n d e
