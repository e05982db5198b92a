-- Document 02, request 7: 13 is given exactly when the table passes 1, 2, 3, has a window of the owner and no sliver, and has one of 13's four causes, of which
-- the last is that no tick is left; of every entry, of traces, of plan files and of edits
use Rattle.std.specs.Prelude.{◌≡◌, Bool, true, ◌⊎◌, ◌↔◌}
use Rattle.std.proofs.Math.Path.{refl, ap}
use Rattle.std.proofs.Common.{sym, ◌∙◌, true≢false, mod-eq_of_lt}
use Rattle.std.proofs.Math.Bool.{false}
use Rattle.std.proofs.Math.Logic.{inl, inr}
use mathlib.Core.List.{List, [], ◌∷◌}
use Prim.Native.Nat.{ℕ, suc, ◌+◌, ◌-◌, ◌*◌, ◌%◌, ◌≤◌, ◌<◌}
use native.Mathlib.Omega.{arith}
use Rattle.std.proofs.Math.Decide.{dec_lt}
use Rattle.std.proofs.Math.ListN.{length}
use Rattle.scope.specs.Numbers.{pieces, pieces_from}
use Rattle.scope.specs.Limits.{teams}
use Rattle.scope.specs.Windows.{Board, framed, Window, windows_of, window_at, covers, supplied, supplied_by}
use Rattle.scope.specs.Answers.{Fault, Fault.fine, Fault.fault, Answer, Answer.refused, ◌or_else◌, table_fault}
use Rattle.scope.specs.Shared.{own, left_of, own_left, as_owned, whole_fault, absent_owner_fault, sliver_fault, lost_fault, shared_fault, own_answer, asked_for, replay_for, plan_board, plan_answer}
use Rattle.scope.specs.Summary.{Edit, table_in, edited_list, edit_answer}
use Rattle.theory.specs.Windows.{gives_in, covers_at}
use Rattle.theory.specs.Gaps.{fits}
use Rattle.theory.specs.Answers.{table_legal}
use Rattle.theory.specs.Shared.{present_fine}
use Rattle.theory.specs.Slivers.{sliver_twelve}
use Rattle.theory.specs.Left.{left_out, left_supplied}
use Rattle.theory.specs.Losses.{Cause, lost_thirteen, lost_exactly}
use Rattle.theory.specs.Alone.{table_same, WholeRefusal, WholeRefusal.by_count, WholeRefusal.by_frame, WholeRefusal.by_window, WholeRefusal.by_range, WholeRefusal.by_sliver}
use Rattle.theory.specs.Shortest.{Known, whole_base, OfTrace, OfPlan, asked_listed, own_listed, trace_listed, plan_listed}
use Rattle.theory.specs.Edits.{Ready, Allowed, NewRefusal, EditRefusal, edit_refusal, refusal_edit, new_refused}

-- ---- of lists of windows and every entry

module _ (owners : ℕ) (b : Board) (ws : List ℕ) where
  -- everything before it passed, and one of its causes; its place is 0
  pub record Thirteen (p : ℕ) : Type 0 where
    pub whole : whole_fault owners b ws ≡ fine
    pub present : absent_owner_fault b ws ≡ fine
    pub long : sliver_fault b ws ≡ fine
    pub cause : Cause b (own b ws)
    pub at : p ≡ 0

  -- a list is refused by 13 exactly then
  pub shared_thirteen : (p : ℕ) → (shared_fault owners b ws ≡ fault 13 p) ↔ Thirteen p
  unfolding shared_fault
  shared_thirteen p = (go (whole_fault owners b ws) (absent_owner_fault b ws) (sliver_fault b ws) refl refl refl (whole_base owners b ws 13 p), so)
    where
      mine : Fault
      mine = lost_fault b (own b ws)

      go : (f g h : Fault) → whole_fault owners b ws ≡ f → absent_owner_fault b ws ≡ g → sliver_fault b ws ≡ h →
          ((whole_fault owners b ws or_else absent_owner_fault b ws) ≡ fault 13 p → 13 ≤ 11) → (f or_else g or_else h or_else mine) ≡ fault 13 p → Thirteen p
      go (fault n q) g h e a s base z = absurd (omega (arith, base (rw e z)))
      go fine (fault n q) h e a s base z = absurd (omega (arith, base (rw (e, a) z)))
      go fine fine (fault n q) e a s base z = let x : n ≡ 13 = cc in absurd (omega (arith, sliver_twelve b ws n q s))
      go fine fine fine e a s base z =
          let t = lost_thirteen b (own b ws) 13 p z in
          let y : 0 ≡ p = cc in
          record { whole = e; present = a; long = s; cause = (lost_exactly b (own b ws)).0 (z ∙ sym t); at = sym y }

      so : Thirteen p → shared_fault owners b ws ≡ fault 13 p
      so t = rw (t.whole, t.present, t.long, t.at) ((lost_exactly b (own b ws)).1 t.cause)

  -- and so does every entry refuse that does not give 13 itself
  pub exactly_thirteen : {A : Type 0} (entry : List ℕ → Answer A) → Known entry → (p : ℕ) → (asked_for owners b ws refused entry ≡ refused 13 p) ↔ Thirteen p
  exactly_thirteen entry is p = asked_listed 13 (omega arith) (omega arith) owners b ws p (shared_thirteen p) entry is

  -- what is left of an owner's windows by itself, whose memory may be too short
  pub own_thirteen : (room p : ℕ) → (own_answer owners b ws room ≡ refused 13 p) ↔ Thirteen p
  own_thirteen room p = own_listed 13 (omega arith) (omega arith) owners b ws p (shared_thirteen p) room

-- ---- the fourth cause: of a list of windows without a fault nothing is left exactly when no tick is supplied

module _ (b : Board) where
  left_or : (ws : List Window) → (left_of b.lost ws ≡ []) ⊎ ((i : ℕ) × (i < length ws) × (b.lost < (window_at ws i).end - (window_at ws i).start))
  unfolding left_of
  left_or [] = inl refl
  left_or (w ∷ ws) =
      elim (dec_lt b.lost (w.end - w.start)) [
        | yes h ↦ inr (0, omega arith, h)
        | no h ↦ later (omega arith) (left_or ws)
      ]
    where
      later : w.end - w.start ≤ b.lost → (left_of b.lost ws ≡ []) ⊎ ((i : ℕ) × (i < length ws) × (b.lost < (window_at ws i).end - (window_at ws i).start)) →
          (left_of b.lost (w ∷ ws) ≡ []) ⊎ ((i : ℕ) × (i < length (w ∷ ws)) × (b.lost < (window_at (w ∷ ws) i).end - (window_at (w ∷ ws) i).start))
      later h (inl e) = inl (left_out b.lost w ws h ∙ e)
      later h (inr (i, l, u)) = inr (suc i, omega arith, u)

  pub no_tick_left : (mine : List ℕ) → table_fault b mine ≡ fine → (left_of b.lost (windows_of mine) ≡ []) ↔ ((k : ℕ) → supplied_by b mine k ≡ false)
  unfolding supplied covers pieces pieces_from
  no_tick_left mine fine-list = (only, so (left_or (windows_of mine)))
    where
      only : left_of b.lost (windows_of mine) ≡ [] → (k : ℕ) → supplied_by b mine k ≡ false
      only e k = ap (λ (σ : ℕ → Bool). σ k) (left_supplied b (windows_of mine)) ∙ ap (λ (l : List ℕ). supplied_by (framed b.frame) l k) e

      so : (left_of b.lost (windows_of mine) ≡ []) ⊎ ((i : ℕ) × (i < length (windows_of mine)) × (b.lost < (window_at (windows_of mine) i).end - (window_at (windows_of mine) i).start)) →
          ((k : ℕ) → supplied_by b mine k ≡ false) → left_of b.lost (windows_of mine) ≡ []
      so (inl e) h = e
      so (inr (i, l, u)) h =
          let w : Window = window_at (windows_of mine) i in
          let whole = table_legal (framed b.frame) mine (table_same (framed b.frame) b mine refl ∙ fine-list) refl in
          let f = fits (framed b.frame) (windows_of mine) whole.windows i l in
          let k : ℕ = b.lost + w.start in
          let place : k % b.frame ≡ k = mod-eq_of_lt (omega (arith, f.1)) in
          let given-tick : supplied_by b mine k ≡ true = rw place (covers_at b.lost k (windows_of mine) i l (gives_in b.lost w k (omega arith) (omega arith))) in
          absurd (true≢false (sym given-tick ∙ h k))

-- so of a list of windows, in the request's words: the asked owner is left no tick
pub no_tick_asked : (owners : ℕ) (b : Board) (ws : List ℕ) → whole_fault owners b ws ≡ fine → absent_owner_fault b ws ≡ fine →
    (own_left b ws ≡ []) ↔ ((k : ℕ) → supplied_by b (own b ws) k ≡ false)
no_tick_asked owners b ws e a = no_tick_left b (own b ws) (present_fine owners b ws e a)

-- ---- traces and plan files: exactly where their bytes read and the list of windows is refused so

pub replay_thirteen : (b : Board) (ws ts bytes : List ℕ) (p : ℕ) → (replay_for b ws ts bytes ≡ refused 13 p) ↔ OfTrace bytes (Thirteen teams b ws p)
replay_thirteen b ws ts bytes p = trace_listed 13 (omega arith) (omega arith) b ws p (shared_thirteen teams b ws p) ts bytes

pub plan_thirteen : (k : ℕ) (bytes : List ℕ) (p : ℕ) → (plan_answer k bytes ≡ refused 13 p) ↔ OfPlan k bytes (λ q. Thirteen teams (plan_board q) (as_owned 0 q.windows) p)
plan_thirteen k bytes p = plan_listed 13 (omega arith) (omega arith) p (λ b ws. Thirteen teams b ws p) (λ b ws. shared_thirteen teams b ws p) k bytes

-- ---- edits

-- an edit is refused by 13 exactly when the table as it is is, or everything before passed and the table as it would be is, and then because no tick is left
module _ (owners : ℕ) (b : Board) (count : ℕ) (memory summary : List ℕ) (edit : Edit) where
  pub data EditThirteen (p : ℕ) : Type 0 where
    old_thirteen : 3 * count ≤ length memory → Thirteen owners b (table_in count memory) p → EditThirteen p
    new_thirteen : Ready owners b count memory summary → Allowed edit count → Thirteen owners b (edited_list count memory edit) p →
        own_left b (edited_list count memory edit) ≡ [] → EditThirteen p

  pub edit_thirteen : (p : ℕ) → (edit_answer owners b count memory summary edit ≡ refused 13 p) ↔ EditThirteen p
  edit_thirteen p = (λ e. only 13 p (edit_refusal owners b count memory summary edit 13 p e) refl, so)
    where
      not_whole : (windows n q : ℕ) → WholeRefusal windows n q → n ≡ 13 → ⊥
      not_whole windows n q by_count z = omega arith
      not_whole windows n q by_frame z = omega arith
      not_whole windows n q (by_window i h) z = omega arith
      not_whole windows n q by_range z = omega arith
      not_whole windows n q (by_sliver i h) z = omega arith

      only_loss : (windows n q : ℕ) → NewRefusal b (edited_list count memory edit) windows n q → n ≡ 13 → own_left b (edited_list count memory edit) ≡ []
      only_loss windows n q (NewRefusal.too_few h) z = absurd (omega arith)
      only_loss windows n q (NewRefusal.too_many h) z = absurd (omega arith)
      only_loss windows n q (NewRefusal.new_window i h) z = absurd (omega arith)
      only_loss windows n q (NewRefusal.new_absent h) z = absurd (omega arith)
      only_loss windows n q (NewRefusal.new_sliver i h) z = absurd (omega arith)
      only_loss windows n q (NewRefusal.new_loss u h) z = h

      only : (n q : ℕ) → EditRefusal owners b count memory summary edit n q → n ≡ 13 → EditThirteen q
      only n q (EditRefusal.short_memory h) z = absurd (omega arith)
      only n q (EditRefusal.old_table c f r) z = absurd (not_whole count n q r z)
      only n q (EditRefusal.old_absent c f h) z = absurd (omega arith)
      only n q (EditRefusal.old_loss c f h) z = old_thirteen c ((shared_thirteen owners b (table_in count memory) 0).0 f)
      only n q (EditRefusal.not_its_summary h) z = absurd (omega arith)
      only n q (EditRefusal.absent_index r h) z = absurd (omega arith)
      only n q (EditRefusal.new_table r a f x) z =
          new_thirteen r a ((shared_thirteen owners b (edited_list count memory edit) q).0 (rw z at f)) (only_loss _ n q x z)
      only n q (EditRefusal.no_room c h) z = absurd (omega arith)
      only n q (EditRefusal.no_summary_room c h k) z = absurd (omega arith)

      so : EditThirteen p → edit_answer owners b count memory summary edit ≡ refused 13 p
      so (old_thirteen c t) =
          rw t.at (refusal_edit owners b count memory summary edit 13 0 (EditRefusal.old_loss c (rw t.at at ((shared_thirteen owners b (table_in count memory) p).1 t)) t.cause))
      so (new_thirteen r a t h) = new_refused owners b count memory summary edit r a 13 p ((shared_thirteen owners b (edited_list count memory edit) p).1 t)
