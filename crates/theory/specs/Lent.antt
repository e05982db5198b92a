-- Lent memory that an owner's windows are asked into: what is left of them there is what every entry is asked by, as if it were the table
use Rattle.std.specs.Prelude.{◌≡◌, List, ℕ, ◌*◌, ◌≤◌, length, drop}
use Rattle.std.proofs.Math.Path.{refl, ap}
use Rattle.std.proofs.Common.{sym, ◌∙◌, arith}
use Rattle.std.proofs.Math.Bool.{false}
use Rattle.std.proofs.Math.Dec.{ltb}
use Rattle.std.proofs.Math.ListN.{take}
use Rattle.std.proofs.Math.Seq.{take-append_seam}
use borrow.Author.Tests.{le-ltb}
use Rattle.scope.specs.Numbers.{written}
use Rattle.scope.specs.Limits.{most_windows}
use Rattle.scope.specs.Windows.{Board, framed}
use Rattle.scope.specs.Answers.{Fault, Fault.fine, Fault.fault, Answer.given, Answer.refused, fault_if, ◌or_else◌, table_fault, room_fault}
use Rattle.scope.specs.Shared.{own, own_left, shared_fault, own_fault, own_answer, own_out, asked_for}
use Rattle.theory.specs.Answers.{fault_not_fine, or_else_fine, unless_given, unless_refused_lem}
use Rattle.theory.specs.Shared.{shared_parts, asked_fine, asked_refused}
use Rattle.theory.specs.Left.{left_most, listed_left}
use Rattle.theory.specs.Alone.{Entry}
use Rattle.theory.specs.Lost.{asked_left}

module _ (owners : ℕ) (b : Board) (ws : List ℕ) where
  -- n numbers of it are what is left of the owner's windows, which is a legal list in the same frame
  pub record Taken (n : ℕ) (out : List ℕ) : Type 0 where
    pub shared : shared_fault owners b ws ≡ fine
    pub few : n ≤ 2 * most_windows
    pub front : take n out ≡ own_left b ws
    pub fine_front : table_fault (framed b.frame) (take n out) ≡ fine

  pub taken : (before after : List ℕ) (n : ℕ) → own_answer owners b ws (length before) ≡ given n → after ≡ own_out owners b ws before → Taken n after
  unfolding own_answer own_out own_fault written
  taken before after n e is =
      let u = unless_given (shared_fault owners b ws or_else room_fault (length (own_left b ws)) (length before)) _ n e in
      let f = (or_else_fine (shared_fault owners b ws) _ u.0).0 in
      let front : take n after ≡ own_left b ws = rw (is, u.0, ← u.1) (take-append_seam (own_left b ws) (drop (length (own_left b ws)) before)) in
      record {
        shared = f;
        few = omega (arith, left_most owners b ws (shared_parts owners b ws f).0, u.1);
        front = front;
        fine_front = ap (table_fault (framed b.frame)) front ∙ listed_left owners b ws f;
      }

  -- where there is room for as many windows as a table may have, only the list is refused
  pub not_taken : (room n p : ℕ) → 2 * most_windows ≤ room → own_answer owners b ws room ≡ refused n p → shared_fault owners b ws ≡ fault n p
  unfolding own_answer own_fault room_fault
  not_taken room n p h e =
      go (shared_fault owners b ws) refl
      (unless_refused_lem (shared_fault owners b ws or_else room_fault (length (own_left b ws)) room) _ n p e)
    where
      go : (f : Fault) → shared_fault owners b ws ≡ f → (f or_else fault_if (ltb room (length (own_left b ws))) 8 (length (own_left b ws))) ≡ fault n p → f ≡ fault n p
      go (fault m q) s z = z
      go fine s z =
          let few = left_most owners b ws (shared_parts owners b ws s).0 in
          let roomy : ltb room (length (own_left b ws)) ≡ false = le-ltb room (length (own_left b ws)) (omega arith) in
          absurd (fault_not_fine (sym (rw roomy at z)))

  module _ {R : Type 0} {refusal : ℕ → ℕ → R} {entry : Board → List ℕ → R} (is : Entry refusal entry) where
    -- what is asked for an owner, by what was asked into the memory: an entry need not know of the owner or of what is lost
    pub asked_taken : {n : ℕ} {out : List ℕ} → Taken n out → entry (framed b.frame) (take n out) ≡ asked_for owners b ws refusal (entry b)
    asked_taken t = ap (entry (framed b.frame)) t.front ∙ sym (asked_left is owners b ws t.shared)

    -- what the owner's windows get is what the memory's numbers get
    pub taken_entry : {n : ℕ} {out : List ℕ} → Taken n out → entry (framed b.frame) (take n out) ≡ entry b (own b ws)
    taken_entry t = asked_taken t ∙ asked_fine owners b ws refusal (entry b) t.shared

    pub asked_not : (room n p : ℕ) → 2 * most_windows ≤ room → own_answer owners b ws room ≡ refused n p → refusal n p ≡ asked_for owners b ws refusal (entry b)
    asked_not room n p h e = sym (asked_refused owners b ws refusal (entry b) (not_taken room n p h e))
