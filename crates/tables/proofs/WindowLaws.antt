-- The rule of windows, by the cases that the code tells apart; and what windows cover, one after the other
use mathlib.Core.Path.{◌≡◌, refl, sym, ap, ap₂, ◌∙◌}
use mathlib.Core.Bool.{Bool, true, false, not, cond, ◌&&◌, ◌||◌}
use mathlib.Core.Option.{none, some}
use mathlib.Core.List.{List, [], ◌∷◌}
use Prim.Native.Nat.{ℕ, suc, ◌+◌, ◌-◌, ◌<◌}
use native.Mathlib.Omega.{arith}
use lib.Dec.{ltb}
use lib.ListN.{length}
use borrow.Author.Tests.{eq-eqb, ne_eqb}
use Rattle.scope.specs.Numbers.{first_by}
use Rattle.scope.specs.Windows.{Board, Window, window_at, gives, covers, window_fits, window_legal, bad_window}
use Rattle.scope.specs.Answers.{Answer.given, Answer.refused, fault_at, unless, window_fault, window_answer}
use Rattle.std.specs.List.{range_with_len, list_any}
use Rattle.std.specs.Result.{is_ok}
use Rattle.std.specs.declared.result.Result.{Result}
use Rattle.std.specs.declared.result.Result.TheVariants.{Ok, Err}
use Rattle.tables.specs.declared.answer.Refusal.{Refusal}
use Rattle.tables.specs.declared.window.Window as window_record
use Rattle.tables.specs.Told.{window_of, told_window}
use Rattle.tables.proofs.FaultLaws.{keeps, breaks}

module _ (b : Board) (ws : List Window) (i : ℕ) where
  pub misfit : window_fits b (window_at ws i) ≡ false → false ≡ window_legal b ws i
  unfolding window_legal
  misfit e = rw e

  module _ (fits : window_fits b (window_at ws i) ≡ true) where
    pub first_window : i ≡ 0 → true ≡ window_legal b ws i
    unfolding window_legal
    first_window e = rw (fits, eq-eqb i 0 e)

    pub next_window : (i ≡ 0 → ⊥) → ltb (window_at ws (i - 1)).end (window_at ws i).start ≡ window_legal b ws i
    unfolding window_legal
    next_window e = rw (fits, ne_eqb i 0 e)

-- a window alone
pub window_alone_lem : (b : Board) (w : Window) (t : Bool) → window_fits b w ≡ t → cond t (given w) (refused 3 0) ≡ window_answer b w
unfolding window_answer window_fault bad_window first_by window_legal
window_alone_lem b w t e =
    sym (ap (λ (x : Bool). unless (fault_at 3 (cond (not (x && true)) (some 0) none)) w) e ∙ go t)
  where
    go : (x : Bool) → unless (fault_at 3 (cond (not (x && true)) (some 0) none)) w ≡ cond x (given w) (refused 3 0)
    go true = refl
    go false = refl

-- and back
pub fitting : (b : Board) (w v : Window) → given v ≡ window_answer b w → (window_fits b w ≡ true) × (v ≡ w)
fitting b w v e = keeps (window_fits b w) w 3 0 v (e ∙ sym (window_alone_lem b w (window_fits b w) refl))

pub unfitting : (b : Board) (w : Window) (n p : ℕ) → refused n p ≡ window_answer b w → window_fits b w ≡ false
unfitting b w n p e = breaks (window_fits b w) w 3 0 n p (e ∙ sym (window_alone_lem b w (window_fits b w) refl))

-- what is made of it tells whether it fits
made_fits : (b : Board) (w : Window) (r : Result window_record.Window Refusal) → told_window r ≡ window_answer b w → is_ok r ≡ window_fits b w
made_fits b w (Ok v) e = sym (fitting b w (window_of v) e).0
made_fits b w (Err r) e = sym (unfitting b w _ _ e)

-- a window of the list that was read
pub read_fits : (b : Board) {w v : Window} (r : Result window_record.Window Refusal) {t u : Bool} → told_window r ≡ window_answer b w → w ≡ v → t ≡ is_ok r → t ≡ u → window_fits b v ≡ u
read_fits b {w} {v} r made read ok is = ap (window_fits b) (sym read) ∙ sym (made_fits b w r made) ∙ sym ok ∙ is

-- ---- the windows one after the other

module _ (q k : ℕ) where
  -- read from index a on
  covers_from : (ws : List Window) (a : ℕ) (read : ℕ → Bool) → ((i : ℕ) → i < length ws → read (a + i) ≡ gives q (window_at ws i) k) → list_any read (range_with_len a (length ws)) ≡ covers q ws k
  unfolding covers
  covers_from [] a read r = refl
  covers_from (w ∷ ws) a read r =
      let e : a + 0 ≡ a = omega arith in
      ap₂ ◌||◌ (ap read (sym e) ∙ r 0 (omega arith)) (covers_from ws (a + 1) read (λ i h. let f : a + 1 + i ≡ a + suc i = omega arith in ap read f ∙ r (suc i) (omega arith)))

-- all of them
pub covers_read : (q : ℕ) (ws : List Window) (k : ℕ) → list_any (λ i. gives q (window_at ws i) k) (range_with_len 0 (length ws)) ≡ covers q ws k
covers_read q ws k = covers_from q k ws 0 (λ i. gives q (window_at ws i) k) (λ i h. let e : 0 + i ≡ i = omega arith in ap (λ (i : ℕ). gives q (window_at ws i) k) e)
