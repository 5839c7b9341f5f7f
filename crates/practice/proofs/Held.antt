-- The rows of the practice table answer as the practice sheet does, at each index and beyond them.
use Rattle.std.proofs.Common.{arith, ◌≡◌, ℕ, [], ◌∷◌, Some, None, get_or, ap, ◌∙◌, sym}
use Rattle.syntax.specs.declared.Symbol.TheVariants.{Terminal, Nonterminal}
use Rattle.table.specs.declared.Action.TheVariants.{Shift, Accept, Reject}
use Rattle.table.specs.Automaton.{Automaton, nth, head, symbol_at}
use Rattle.layout.specs.Records.{sheet}
use Rattle.layout.specs.Meaning.{automaton}
use Rattle.layout.specs.Practice.{practice_bytes}
use Rattle.theory.specs.Practice.{rules, entries, defaults, actions, gotos, empty_rule, longer_rule}
use Rattle.dense.specs.Rows.{Rows, cell, heads, right_rows}
use Rattle.dense.proofs.Entries.{head_at, right_symbol_at}
use Rattle.practice.proofs.Same.{same_rule, same_entry, same_default, same_action, same_goto}

-- the rows, and the table that they hold
abbrev rows : Rows
rows = record {
  productions = empty_rule ∷ longer_rule ∷ [];
  incoming = None ∷ Some (Nonterminal 0) ∷ Some (Terminal 1) ∷ [];
  defaults = Some 0 ∷ None ∷ Some 1 ∷ [];
  actions = (Reject ∷ Reject ∷ []) ∷ (Accept ∷ Shift 2 ∷ []) ∷ (Reject ∷ Reject ∷ []) ∷ [];
  gotos = (Some 1 ∷ []) ∷ (None ∷ []) ∷ (None ∷ []) ∷ [];
}

abbrev held : Automaton
held = automaton (sheet practice_bytes)

-- as the theory has it

rule_at : (p : ℕ) → nth rows.productions p ≡ rules p
rule_at p = grind arith

entry_at : (s : ℕ) → get_or rows.incoming s None ≡ entries s
entry_at s = grind arith

reduced_at : (s : ℕ) → get_or rows.defaults s None ≡ defaults s
reduced_at s = grind arith

done_at : (s a : ℕ) → cell rows.actions Reject s a ≡ actions s a
done_at s a = grind arith

gone_at : (s n : ℕ) → cell rows.gotos None s n ≡ gotos s n
gone_at s n = grind arith

-- as the sheet has it

pub production_at : (p : ℕ) → nth (heads rows.productions) p ≡ head (held.grammar p)
production_at p = head_at rows.productions p ∙ ap head (rule_at p ∙ sym (same_rule p))

pub right_at : (p k : ℕ) → cell (right_rows 2 rows.productions) None p k ≡ symbol_at (held.grammar p) k
right_at p k =
    right_symbol_at 2 rows.productions p k ∙ ap (λ o. symbol_at o k) (rule_at p ∙ sym (same_rule p))

pub incoming_at : (s : ℕ) → get_or rows.incoming s None ≡ held.incoming s
incoming_at s = entry_at s ∙ sym (same_entry s)

pub default_at : (s : ℕ) → get_or rows.defaults s None ≡ held.default s
default_at s = reduced_at s ∙ sym (same_default s)

pub action_at : (s a : ℕ) → cell rows.actions Reject s a ≡ held.action s a
action_at s a = done_at s a ∙ sym (same_action s a)

pub goto_at : (s n : ℕ) → cell rows.gotos None s n ≡ held.goto s n
goto_at s n = gone_at s n ∙ sym (same_goto s n)
