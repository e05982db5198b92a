-- Document 02, request 7: boards that pay for a switch. Which ticks an owner is supplied; that what is left of its windows is a legal table, on which rule 1
-- answers as the board does here; and that rule 2 without a loss answers as rule 1. One statement each, over every entry and any number of owners
use Rattle.std.specs.Prelude.{◌≡◌, refl, Bool, true, ◌↔◌, List, ℕ, ◌%◌, ◌/◌, ◌<◌, length}
use Rattle.std.proofs.Common.{sym, ap, ◌∙◌}
use Rattle.scope.specs.Numbers.{least}
use Rattle.scope.specs.Limits.{teams}
use Rattle.scope.specs.Ticks.{supply}
use Rattle.scope.specs.Windows.{Board, framed_for, framed, windows_of, supplied, supplied_by}
use Rattle.scope.specs.Answers.{Fault.fine, Answer.given, rule_fault, least_supply_answer}
use Rattle.scope.specs.Trace.{timed, trace_of}
use Rattle.scope.specs.Replay.{replay_answer}
use Rattle.scope.specs.Shared.{owned_of, own, left_of, own_left, as_owned, whole_fault, lost_fault, shared_fault, own_fault, own_answer, own_out, unless_refused, asked_for, least_supply_for, records_for, replay_for}
use Rattle.scope.specs.Summary.{summary_of, summary_fault, Edit, table_in, edited_list, edit_fault, edit_answer, edit_windows, edit_summary}
use Rattle.theory.specs.Gaps.{fits}
use Rattle.theory.specs.Rows.{end_of, ends_answer}
use Rattle.theory.specs.Shared.{Gives, covers_given, given_covers, shared_parts, own_fine, asked_fine, asked_given}
use Rattle.theory.specs.Left.{left_supplied, left_even, left_whole, left_fine, left_some, listed_left, left_legal}
use Rattle.theory.specs.Alone.{Entry, table_same, windows_same, summary_same, own_owner, whole_same, sliver_same, absent_same, pairs_only, own_pairs, one_owner, or_nine_lem, least_supply_entry, records_entry}

-- ---- a tick

-- a tick is supplied exactly when some window of the owner has its place in the frame, at or after the window's start and the lost ticks, and before its end
pub supplied_exactly : (owners : ℕ) (b : Board) (ws : List ℕ) (k : ℕ) → (supplied_by b (own b ws) k ≡ true) ↔ Gives owners b b.owner (owned_of ws) (k % b.frame)
unfolding supplied
supplied_exactly owners b ws k = (covers_given owners b b.owner (owned_of ws) (k % b.frame), given_covers owners b b.owner (owned_of ws) (k % b.frame))

-- ---- the table that is left

module _ {R : Type 0} {refusal : ℕ → ℕ → R} {entry : Board → List ℕ → R} (is : Entry refusal entry) (owners : ℕ) (b : Board) (ws : List ℕ)
    (listed : shared_fault owners b ws ≡ fine) where
  -- what is left, in its frame alone, is answered as the owner is
  pub asked_left : asked_for owners b ws refusal (entry b) ≡ entry (framed b.frame) (own_left b ws)
  asked_left =
      asked_fine owners b ws refusal (entry b) listed
      ∙ is.by_ticks b (framed b.frame) (own b ws) (own_left b ws) refl
      (own_fine owners b ws listed ∙ sym (listed_left owners b ws listed)) (left_supplied b (windows_of (own b ws)))

  -- so it is, as a table of one owner under rule 1, answered as the owner is here
  pub rule_one : (o : ℕ) → o < owners → asked_for owners b ws refusal (entry b) ≡ asked_for owners (framed_for b.frame o) (as_owned o (own_left b ws)) refusal (entry (framed_for b.frame o))
  rule_one o h =
      asked_left
      ∙ windows_same is (framed b.frame) (framed_for b.frame o) (own_left b ws) refl refl
      ∙ sym (one_owner owners (framed_for b.frame o) h (own_left b ws) refl refl refl is)

module _ (owners : ℕ) (b : Board) (ws : List ℕ) (o : ℕ) (exists : o < owners) where
  -- that table, where it is not empty, is legal where every window is allowed and given whole
  pub left_table : whole_fault owners b ws ≡ fine → 0 < length (own_left b ws) → shared_fault owners (framed_for b.frame o) (as_owned o (own_left b ws)) ≡ fine
  left_table legal some =
      pairs_only owners (framed_for b.frame o) exists (own_left b ws) refl refl refl
      ∙ table_same (framed_for b.frame o) (framed b.frame) (own_left b ws) refl ∙ left_fine owners b ws legal some

module _ (owners : ℕ) (b : Board) (ws : List ℕ) (listed : shared_fault owners b ws ≡ fine) (o : ℕ) (exists : o < owners) where
  -- and nothing more is taken of it
  left_again : own_left (framed_for b.frame o) (as_owned o (own_left b ws)) ≡ own_left b ws
  left_again =
      let even = left_even b.lost (windows_of (own b ws)) in
      ap (λ (l : List ℕ). left_of 0 (windows_of l)) (own_pairs owners (framed_for b.frame o) exists (own_left b ws) even)
      ∙ left_whole 0 refl (own_left b ws) even (λ i u. (fits (framed b.frame) (windows_of (own_left b ws)) (left_legal owners b ws listed).windows i u).0)

  -- what is left, by itself and in lent memory, is what is left of it
  pub own_rule_one : (room : ℕ) (out : List ℕ) →
      (own_answer owners b ws room ≡ own_answer owners (framed_for b.frame o) (as_owned o (own_left b ws)) room)
      × (own_out owners b ws out ≡ own_out owners (framed_for b.frame o) (as_owned o (own_left b ws)) out)
  unfolding own_answer own_out own_fault
  own_rule_one room out =
      let table = left_table owners b ws o exists (shared_parts owners b ws listed).0 (left_some owners b ws listed) in
      (rw (listed, table, left_again), rw (listed, table, left_again))

-- the starts for the amount are still window ends: the least supply is the least over the ends of what is left
pub ends_left : (b : Board) (ws : List ℕ) (t v : ℕ) → least_supply_for b ws t ≡ given v →
    v ≡ least (λ i. supply (supplied_by b (own b ws)) (end_of (own_left b ws) i) t) (length (own_left b ws) / 2)
unfolding least_supply_for
ends_left b ws t v e =
    let listed = (asked_given teams b ws (λ l. least_supply_answer b l t) v e).0 in
    ends_answer (framed b.frame) (own_left b ws) t v refl (sym (asked_left (least_supply_entry t) teams b ws listed) ∙ e)
    ∙ ap (λ (σ : ℕ → Bool). least (λ i. supply σ (end_of (own_left b ws) i) t) (length (own_left b ws) / 2)) (sym (left_supplied b (windows_of (own b ws))))

-- a trace, whose bytes are refused before any table, is answered as on that table too
module _ (b : Board) (ws ts bytes : List ℕ) (listed : shared_fault teams b ws ≡ fine) where
  pub replay_left : replay_for b ws ts bytes ≡ replay_answer (framed b.frame) (own_left b ws) ts bytes
  unfolding replay_for records_for replay_answer
  replay_left = or_nine_lem (trace_of bytes) _ _ (λ rs next. asked_left (records_entry ts (timed rs)) teams b ws listed)

  pub replay_rule_one : (o : ℕ) → o < teams → replay_for b ws ts bytes ≡ replay_for (framed_for b.frame o) (as_owned o (own_left b ws)) ts bytes
  unfolding replay_for records_for
  replay_rule_one o h = or_nine_lem (trace_of bytes) _ _ (λ rs next. rule_one (records_entry ts (timed rs)) teams b ws listed o h)

-- ---- rule 2 without a loss

-- a board of rule 1, and one of rule 2 that loses nothing and is else the same
pub record NoLoss (b c : Board) : Type 0 where
  pub frame : b.frame ≡ c.frame
  pub owner : b.owner ≡ c.owner
  pub shortest : b.shortest ≡ c.shortest
  pub one : b.rule ≡ 1
  pub two : c.rule ≡ 2
  pub whole : b.lost ≡ 0
  pub nothing : c.lost ≡ 0

module _ (b c : Board) (alike : NoLoss b c) where
  same_lost : b.lost ≡ c.lost
  same_lost = alike.whole ∙ sym alike.nothing

  same_own : (ws : List ℕ) → own b ws ≡ own c ws
  same_own ws = own_owner b c ws alike.owner

  same_left : (ws : List ℕ) → own_left b ws ≡ own_left c ws
  same_left ws = rw (same_own ws, same_lost)

  same_lost_fault : (mine : List ℕ) → lost_fault b mine ≡ lost_fault c mine
  unfolding lost_fault rule_fault
  same_lost_fault mine = rw (alike.one, alike.two, alike.whole, alike.nothing)

  same_summary : (ws : List ℕ) → summary_of b (own b ws) ≡ summary_of c (own c ws)
  same_summary ws = summary_same b c (own b ws) (own c ws) alike.frame same_lost (same_own ws)

  -- they refuse the same lists, by the same numbers and at the same places
  pub no_loss_fault : (owners : ℕ) (ws : List ℕ) → shared_fault owners b ws ≡ shared_fault owners c ws
  unfolding shared_fault
  no_loss_fault owners ws =
      rw (whole_same owners b c ws alike.frame, absent_same b c ws ws (same_own ws), sliver_same b c ws alike.shortest, same_own ws, same_lost_fault (own c ws))

  -- and every entry answers the same, or leaves the same in lent memory
  pub no_loss : {R : Type 0} {refusal : ℕ → ℕ → R} {entry : Board → List ℕ → R} → Entry refusal entry → (owners : ℕ) (ws : List ℕ) →
      asked_for owners b ws refusal (entry b) ≡ asked_for owners c ws refusal (entry c)
  unfolding asked_for
  no_loss {R} {refusal} {entry} is owners ws =
      rw (no_loss_fault owners ws, same_own ws) (ap (unless_refused (shared_fault owners c ws) refusal) (windows_same is b c (own c ws) alike.frame same_lost))

  -- so a trace
  pub replay_no_loss : (ws ts bytes : List ℕ) → replay_for b ws ts bytes ≡ replay_for c ws ts bytes
  unfolding replay_for records_for
  replay_no_loss ws ts bytes = or_nine_lem (trace_of bytes) _ _ (λ rs next. no_loss (records_entry ts (timed rs)) teams ws)

  -- what is left of an owner's windows by itself
  pub own_no_loss : (owners : ℕ) (ws : List ℕ) (room : ℕ) (out : List ℕ) →
      (own_answer owners b ws room ≡ own_answer owners c ws room) × (own_out owners b ws out ≡ own_out owners c ws out)
  unfolding own_answer own_out own_fault
  own_no_loss owners ws room out = (rw (no_loss_fault owners ws, same_left ws), rw (no_loss_fault owners ws, same_left ws))

  -- and an edit, with both memories
  module _ (owners count : ℕ) (memory summary : List ℕ) (edit : Edit) where
    same_edit : edit_fault owners b count memory summary edit ≡ edit_fault owners c count memory summary edit
    unfolding edit_fault summary_fault
    same_edit =
        rw (
          no_loss_fault owners (table_in count memory),
          no_loss_fault owners (edited_list count memory edit),
          same_summary (table_in count memory),
          same_summary (edited_list count memory edit),
        )

    pub edit_no_loss : (edit_answer owners b count memory summary edit ≡ edit_answer owners c count memory summary edit)
        × (edit_windows owners b count memory summary edit ≡ edit_windows owners c count memory summary edit)
        × (edit_summary owners b count memory summary edit ≡ edit_summary owners c count memory summary edit)
    unfolding edit_answer edit_windows edit_summary
    edit_no_loss =
        let s = same_summary (edited_list count memory edit) in
        (rw (same_edit, s), rw same_edit, rw (same_edit, s))
