-- Demand 1: a refusal writes nothing. Where an entry that is lent a buffer refuses, the buffer after it is the buffer before it
use Rattle.std.specs.Prelude.{◌≡◌, List, ℕ, ℤ, length}
use Rattle.std.proofs.Math.Path.{refl}
use Rattle.scope.specs.Windows.{Board}
use Rattle.scope.specs.Verdict.{Verdict}
use Rattle.scope.specs.Answers.{Fault, Fault.fine, Fault.fault, Answer, Answer.refused, unless, unless_kept, room_fault, critical_fault, critical_answer}
use Rattle.scope.specs.Answers.{critical_out, run_fault, run_answer, run_out}
use Rattle.scope.specs.Shared.{own, shared_fault, unless_refused, asked_for, kept as keptBy}
use Rattle.scope.specs.Summary.{make_fault, make_answer, make_out, margins_fault, margins_answer, margins_out, Edit, edit_fault, edit_answer, edit_windows, edit_summary}
use Rattle.scope.specs.Plan.{Plan, write_fault, write_answer, write_out}
use Rattle.scope.specs.Line.{line, line_answer, line_out}
use Rattle.theory.specs.Answers.{unless_refused_lem}

module _ (n p : ℕ) where
  kept : {A B : Type 0} (f : Fault) (a : A) (new old : List B) → unless f a ≡ refused n p → unless_kept f new old ≡ old
  kept f a new old e = rw (unless_refused_lem f a n p e)

  pub critical_kept : (b : Board) (ws out : List ℕ) → critical_answer b ws (length out) ≡ refused n p → critical_out b ws out ≡ out
  unfolding critical_answer critical_out
  critical_kept b ws out e = kept (critical_fault b ws (length out)) _ _ out e

  pub run_kept : (b : Board) (ws ts : List ℕ) (ticks : ℕ) (js out : List ℕ) →
      run_answer b ws ts ticks js (length out) ≡ refused n p → run_out b ws ts ticks js out ≡ out
  unfolding run_answer run_out
  run_kept b ws ts ticks js out e = kept (run_fault b ws ts ticks js (length out)) _ _ out e

  pub make_kept : (b : Board) (ws out : List ℕ) → make_answer b ws (length out) ≡ refused n p → make_out b ws out ≡ out
  unfolding make_answer make_out
  make_kept b ws out e = kept (make_fault b ws (length out)) _ _ out e

  pub margins_kept : (b : Board) (ws summary ts lengths : List ℕ) (out : List ℤ) →
      margins_answer b ws summary ts lengths (length out) ≡ refused n p → margins_out b ws summary ts lengths out ≡ out
  unfolding margins_answer margins_out
  margins_kept b ws summary ts lengths out e = kept (margins_fault b ws summary ts lengths (length out)) _ _ out e

  -- an edit that is refused leaves both lent lists as they are
  pub edit_kept : (owners : ℕ) (b : Board) (count : ℕ) (memory summary : List ℕ) (edit : Edit) → edit_answer owners b count memory summary edit ≡ refused n p →
      (edit_windows owners b count memory summary edit ≡ memory) × (edit_summary owners b count memory summary edit ≡ summary)
  unfolding edit_answer edit_windows edit_summary
  edit_kept owners b count memory summary edit e =
      let f = edit_fault owners b count memory summary edit in
      (kept f _ _ memory e, kept f _ _ summary e)

  pub write_kept : (plan : Plan) (out : List ℕ) → write_answer plan (length out) ≡ refused n p → write_out plan out ≡ out
  unfolding write_answer write_out
  write_kept plan out e = kept (write_fault plan (length out)) _ _ out e

  pub line_kept : (a : Answer Verdict) (out : List ℕ) → line_answer a (length out) ≡ refused n p → line_out a out ≡ out
  unfolding line_answer line_out
  line_kept a out e = kept (room_fault (length (line a)) (length out)) _ _ out e

  -- and so for an owner of a table that teams share: an entry that keeps its buffer where it refuses keeps it where the table is refused too
  pub asked_kept : {A B : Type 0} (owners : ℕ) (b : Board) (ws : List ℕ) (entry : List ℕ → Answer A) (after : List ℕ → List B) (out : List B) →
      ((windows : List ℕ) → entry windows ≡ refused n p → after windows ≡ out) →
      asked_for owners b ws refused entry ≡ refused n p → asked_for owners b ws (keptBy out) after ≡ out
  unfolding asked_for
  asked_kept owners b ws entry after out keeps = go (shared_fault owners b ws)
    where
      go : (f : Fault) → unless_refused f refused (entry (own b ws)) ≡ refused n p → unless_refused f (keptBy out) (after (own b ws)) ≡ out
      go fine e = keeps (own b ws) e
      go (fault m q) e = refl
