-- The asked owner's windows, as every entry lends them on
use Rattle.std.specs.Prelude.{ℕ, ◌*◌, ◌≤◌, List, ◌≡◌, length}
use Rattle.std.proofs.Math.ListN.{take}
use Rattle.std.proofs.Math.Seq.{take_all}
use Rattle.std.proofs.Common.{sym, ap, ◌∙◌, arith}
use Rattle.scope.specs.Limits.{most_windows}
use Rattle.scope.specs.Windows.{Board, framed}
use Rattle.scope.specs.Answers.{Fault.fine, Answer, Answer.given, Answer.refused, unless, table_fault}
use Rattle.scope.specs.Shared.{own, own_left, shared_fault, own_fault, own_answer, asked_for}
use Rattle.theory.specs.Answers.{unless_given, unless_refused_lem}
use Rattle.theory.specs.Shared.{shared_parts}
use Rattle.theory.specs.Left.{left_most, listed_left}
use Rattle.theory.specs.Alone.{Entry}
use Rattle.theory.specs.Lent.{Taken, asked_taken, taken_entry, asked_not}
use Rattle.tables.specs.Lent.{Pairs}

-- a table's refusals, else what is left of the owner's windows
unfoldable pub own_table_answer : ℕ → Board → List ℕ → Answer Pairs
own_table_answer owners b ws = unless (shared_fault owners b ws) (record { frame = b.frame; windows = own_left b ws })

-- it keeps every rule of a table
pub own_table_fine : (owners : ℕ) (b : Board) (ws : List ℕ) {t : Pairs} → given t ≡ own_table_answer owners b ws → table_fault (framed t.frame) t.windows ≡ fine
unfolding own_table_answer
own_table_fine owners b ws {t} e =
    let u = unless_given (shared_fault owners b ws) _ t (sym e) in
    ap (λ (t : Pairs). table_fault (framed t.frame) t.windows) (sym u.1) ∙ listed_left owners b ws u.0

-- all of its windows are what was taken
table_taken : (owners : ℕ) (b : Board) (ws : List ℕ) → shared_fault owners b ws ≡ fine → Taken owners b ws (length (own_left b ws)) (own_left b ws)
table_taken owners b ws s =
    let all : take (length (own_left b ws)) (own_left b ws) ≡ own_left b ws = take_all (length (own_left b ws)) (own_left b ws) (omega arith) in
    record {
      shared = s;
      few = left_most owners b ws (shared_parts owners b ws s).0;
      front = all;
      fine_front = ap (table_fault (framed b.frame)) all ∙ listed_left owners b ws s;
    }

module _ {R : Type 0} {refusal : ℕ → ℕ → R} {entry : Board → List ℕ → R} (is : Entry refusal entry) (owners : ℕ) (b : Board) (ws : List ℕ) where
  -- its windows are asked as what was taken is
  as_taken : {t : Pairs} → given t ≡ own_table_answer owners b ws →
      (shared_fault owners b ws ≡ fine) × (entry (framed t.frame) t.windows ≡ entry (framed b.frame) (take (length (own_left b ws)) (own_left b ws)))
  unfolding own_table_answer
  as_taken {t} e =
      let u = unless_given (shared_fault owners b ws) _ t (sym e) in (
        u.0,
        sym (ap (λ (t : Pairs). entry (framed t.frame) t.windows) u.1) ∙ sym (ap (entry (framed b.frame)) (table_taken owners b ws u.0).front),
      )

  -- what is asked for an owner is what that table gets: an entry need not know of the owner or of what is lost
  pub asked_table : {t : Pairs} → given t ≡ own_table_answer owners b ws → entry (framed t.frame) t.windows ≡ asked_for owners b ws refusal (entry b)
  asked_table {t} e = let a = as_taken e in a.1 ∙ asked_taken owners b ws is (table_taken owners b ws a.0)

  -- and what the owner's windows get
  pub table_entry : {t : Pairs} → given t ≡ own_table_answer owners b ws → entry (framed t.frame) t.windows ≡ entry b (own b ws)
  table_entry {t} e = let a = as_taken e in a.1 ∙ taken_entry owners b ws is (table_taken owners b ws a.0)

  pub asked_no_table : {n p : ℕ} → refused n p ≡ own_table_answer owners b ws → refusal n p ≡ asked_for owners b ws refusal (entry b)
  unfolding own_table_answer own_answer own_fault
  asked_no_table {n} {p} e =
      let f = unless_refused_lem (shared_fault owners b ws) _ n p (sym e) in
      let all : 2 * most_windows ≤ 2 * most_windows = omega arith in
      asked_not owners b ws is (2 * most_windows) n p all (rw f)
