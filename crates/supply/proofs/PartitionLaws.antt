-- The critical partition and the delay as the code finds them, piece by piece
use mathlib.Core.Path.{◌≡◌, refl, sym, ap, ◌∙◌}
use mathlib.Core.Bool.{Bool, true, false, cond, not, ◌&&◌, beq, and-true, and_assoc}
use mathlib.Core.List.{List, [], ◌∷◌, ◌++◌}
use mathlib.Core.Logic.{inl, inr}
use Prim.Native.Nat.{ℕ, zero, suc, ◌+◌, ◌-◌, ◌*◌, ◌≤◌, ◌<◌}
use native.Mathlib.Nat.{add-zero, add-suc}
use native.Mathlib.Numerals.{add-one}
use native.Mathlib.Omega.{arith}
use lib.Dec.{ltb, eqb}
use lib.ListN.{length, get_or, length-append}
use borrow.Author.Tests.{lt-ltb}
use Rattle.scope.specs.Numbers.{greatest, keep}
use Rattle.scope.specs.Ticks.{Periodic, per_frame, least_supply}
use Rattle.scope.specs.Windows.{Board, supplied_by}
use Rattle.scope.specs.Partition.{rises, within, edge, maximal_runs, critical, lag, delay}
use Rattle.scope.specs.Answers.{critical_of}
use Rattle.scope.specs.Summary.{begins}
use Rattle.theory.specs.Answers.{LegalTable}
use Rattle.theory.specs.Numbers.{bool_cases}
use Rattle.theory.specs.Ticks.{least_none}
use Rattle.theory.specs.Rows.{table_row}
use Rattle.theory.specs.Lists.{keep_most, keep_hit, keep_miss}
use Rattle.theory.specs.MaximalRuns.{within_in, within_out}
use Rattle.theory.specs.Delay.{least_average, lag_exact}
use Rattle.supply.specs.declared.partition.Met.{Met}
use Rattle.supply.specs.declared.pieces.Piece.{Piece}
use Rattle.supply.specs.Ahead.{Told}
use Rattle.supply.specs.Measures.{has_at, met_of}

-- ---- the numbers kept among 0, 1, .., n − 1

module _ (p : ℕ → Bool) where
  kept_none : keep p 0 ≡ []
  unfolding keep
  kept_none = refl

  kept_hit : (n : ℕ) → p n ≡ true → keep p (n + 1) ≡ keep p n ++ (n ∷ [])
  kept_hit n e = rw add-one (keep_hit p n e)

  kept_miss : (n : ℕ) → p n ≡ false → keep p (n + 1) ≡ keep p n
  kept_miss n e = rw add-one (keep_miss p n e)

  pub count_hit : (n : ℕ) → p n ≡ true → length (keep p (n + 1)) ≡ length (keep p n) + 1
  count_hit n e = ap length (kept_hit n e) ∙ length-append (keep p n) (n ∷ [])

  pub count_miss : (n : ℕ) → p n ≡ false → length (keep p (n + 1)) ≡ length (keep p n)
  count_miss n e = ap length (kept_miss n e)

  -- a number more keeps at most one more, and no fewer
  count_turn : (n : ℕ) → (length (keep p n) ≤ length (keep p (n + 1))) × (length (keep p (n + 1)) ≤ length (keep p n) + 1)
  count_turn n =
      elim (bool_cases (p n)) [ inl e ↦ omega (arith, count_hit n e) | inr e ↦ omega (arith, count_miss n e) ]

  count_add : (n m : ℕ) → length (keep p n) ≤ length (keep p (n + m))
  count_add n zero = rw (add-zero n) (omega arith)
  count_add n (suc m) = let e : n + suc m ≡ n + m + 1 = omega arith in rw e (omega (arith, count_turn (n + m), count_add n m))

  pub count_up : (n m : ℕ) → n ≤ m → length (keep p n) ≤ length (keep p m)
  count_up n m h = let e : n + (m - n) ≡ m = omega arith in omega (arith, count_add n (m - n), ap (λ (k : ℕ). length (keep p k)) e)

  -- nothing is kept where the test fails
  kept_same : (a x : ℕ) → ((k : ℕ) → a ≤ k → k < a + x → p k ≡ false) → keep p (a + x) ≡ keep p a
  kept_same a zero off = ap (keep p) (add-zero a)
  kept_same a (suc x) off =
      ap (keep p) (add-suc a x) ∙ keep_miss p (a + x) (off (a + x) (omega arith) (omega arith)) ∙ kept_same a x (λ k h l. off k h (omega arith))

-- ---- the edges of a pattern, met by a loop that carries what the pattern was just before

module _ (q : ℕ → Bool) where
  -- false before tick 0
  unfoldable pub was : ℕ → Bool
  was k = ltb 0 k && q (k - 1)

  pub was_none : false ≡ was 0
  unfolding was
  was_none = refl

  pub was_more : (k : ℕ) → q k ≡ was (k + 1)
  unfolding was
  was_more k = let e : k + 1 - 1 ≡ k = omega arith in let l : 0 < k + 1 = omega arith in rw (lt-ltb 0 (k + 1) l, e)

  -- an edge is where what the pattern is differs from what it was
  pub edge_is : (k : ℕ) (here before : Bool) → here ≡ q k → before ≡ was k → edge q k ≡ not (beq here before)
  unfolding was edge
  edge_is k here before h b = rw (← h, ← b) (differ here before)
    where
      differ : (x y : Bool) → cond x (not y) y ≡ not (beq x y)
      differ true true = refl
      differ true false = refl
      differ false true = refl
      differ false false = refl

  -- a pattern that is v from t up to end has an edge at t, or none
  module _ (t end : ℕ) (v : Bool) (l : t < end) (same : (k : ℕ) → t ≤ k → k < end → q k ≡ v) where
    pub was_in : (k : ℕ) → t < k → k ≤ end → v ≡ was k
    was_in k h m = let e : k - 1 + 1 ≡ k = omega arith in sym (same (k - 1) (omega arith) (omega arith)) ∙ was_more (k - 1) ∙ ap was e

    no_edge : (k : ℕ) → t < k → k < end → edge q k ≡ false
    no_edge k h m = edge_is k v v (sym (same k (omega arith) m)) (was_in k h (omega arith)) ∙ alike v
      where
        alike : (x : Bool) → not (beq x x) ≡ false
        alike true = refl
        alike false = refl

    pub edges_in : keep (edge q) end ≡ keep (edge q) (t + 1)
    edges_in =
        let e : t + 1 + (end - (t + 1)) ≡ end = omega arith in
        ap (keep (edge q)) (sym e) ∙ kept_same (edge q) (t + 1) (end - (t + 1)) (λ k h m. no_edge k (omega arith) (omega arith))

-- ---- the edges of the critical partition, piece by piece

-- those up to length t
abbrev pub edges : Board → List ℕ → ℕ → List ℕ
edges b ws t = keep (edge (within (rises (supplied_by b ws) b.frame) b.frame)) t

-- whether the least supply rose just before it
abbrev pub rose : Board → List ℕ → ℕ → Bool
rose b ws = was (within (rises (supplied_by b ws) b.frame) b.frame)

module _ (b : Board) (ws : List ℕ) where
  abbrev σ : ℕ → Bool
  σ = supplied_by b ws

  abbrev P : ℕ
  P = b.frame

  abbrev risen : ℕ → Bool
  risen = within (rises σ P) P

  -- with the end of the frame they are all
  edges_all : edges b ws (P + 1) ≡ critical_of b ws
  unfolding critical maximal_runs
  edges_all = refl

  pub edges_none : edges b ws 0 ≡ []
  edges_none = kept_none (edge risen)

  -- no more of them than lengths
  pub edges_few : (t : ℕ) → length (edges b ws t) ≤ t
  edges_few t = keep_most (edge risen) t

  -- a piece from t on, before which it rose or not
  module _ {t : ℕ} {p : Piece} (told : Told σ P t p) {before : Bool} (is : before ≡ rose b ws t) where
    holds : (k : ℕ) → t ≤ k → k < p.end → risen k ≡ p.rising
    holds k h l = within_in (rises σ P) P k (omega (arith, told.most)) ∙ told.piece.same k h l

    here : edge risen t ≡ not (beq p.rising before)
    here = edge_is risen t p.rising before (sym (holds t (omega arith) told.piece.after)) is

    on : edges b ws p.end ≡ edges b ws (t + 1)
    on = edges_in risen t p.end p.rising told.piece.after holds

    pub next_rose : p.rising ≡ rose b ws p.end
    next_rose = was_in risen t p.end p.rising told.piece.after holds p.end told.piece.after (omega arith)

    pub next_edge : not (beq p.rising before) ≡ true → edges b ws p.end ≡ edges b ws t ++ (t ∷ [])
    next_edge e = on ∙ kept_hit (edge risen) t (here ∙ e)

    pub next_none : not (beq p.rising before) ≡ false → edges b ws p.end ≡ edges b ws t
    next_none e = on ∙ kept_miss (edge risen) t (here ∙ e)

    -- no more than in the whole frame
    pub next_most : length (edges b ws p.end) ≤ length (critical_of b ws)
    next_most = omega (arith, count_up (edge risen) p.end (P + 1) (omega (arith, told.most)), ap length edges_all)

  -- the pieces so far are up to length t
  pub record Reached (t : ℕ) (before : Bool) (least : ℕ) : Type 0 where
    pub within : t ≤ P
    pub turned : before ≡ rose b ws t
    pub low : least ≡ least_supply σ P t

  pub reached_none : LegalTable b ws → Reached 0 false 0
  reached_none ok = record { within = omega arith; turned = was_none risen; low = sym (least_none σ P (table_row b ws ok).repeats) }

  pub reached_next : {t : ℕ} {p : Piece} → Told σ P t p → {before : Bool} {least : ℕ} → Reached t before least → Reached p.end p.rising p.least
  reached_next told so = record { within = told.most; turned = next_rose told so.turned; low = told.piece.ends }

  -- at the end of the frame an open run ends
  module _ {t : ℕ} {before : Bool} {least : ℕ} (so : Reached t before least) (ended : P ≤ t) where
    at_end : t ≡ P
    at_end = omega (arith, so.within)

    last : edge risen P ≡ before
    last =
        edge_is risen P false before (sym (within_out (rises σ P) P P (omega arith))) (so.turned ∙ ap (rose b ws) at_end)
        ∙ is_edge before
      where
        is_edge : (v : Bool) → not (beq false v) ≡ v
        is_edge true = refl
        is_edge false = refl

    pub last_edge : before ≡ true → critical_of b ws ≡ edges b ws t ++ (P ∷ [])
    last_edge e = sym edges_all ∙ kept_hit (edge risen) P (last ∙ e) ∙ ap (λ (k : ℕ). edges b ws k ++ (P ∷ [])) (sym at_end)

    pub last_none : before ≡ false → critical_of b ws ≡ edges b ws t
    last_none e = sym edges_all ∙ kept_miss (edge risen) P (last ∙ e) ∙ ap (edges b ws) (sym at_end)

  -- where an edge is written after others there is room for it, if there is room for all
  room_for : (x : ℕ) (l : List ℕ) {at room : ℕ} {m : List ℕ} → at ≡ length l → length (critical_of b ws) ≤ room → length m ≤ length (critical_of b ws) →
      m ≡ l ++ (x ∷ []) → at < room
  room_for x l at h most e = omega (arith, at, h, most, ap length e, length-append l (x ∷ []))

  module _ (t : ℕ) {at room : ℕ} (met : at ≡ length (edges b ws t)) (h : length (critical_of b ws) ≤ room) where
    pub room_next : {p : Piece} (told : Told σ P t p) {before : Bool} → before ≡ rose b ws t → not (beq p.rising before) ≡ true → at < room
    room_next told is e = room_for _ _ met h (next_most told is) (next_edge told is e)

    pub room_last : {before : Bool} {least : ℕ} → Reached t before least → P ≤ t → before ≡ true → at < room
    room_last so ended e = room_for _ _ met h (omega arith) (last_edge so ended e)

-- ---- numbers held against a list that grows

-- a list begins with one number more where it has that number next
begins_more : (l m : List ℕ) (x : ℕ) → begins (l ++ (x ∷ [])) m ≡ (begins l m && has_at m (length l) x)
unfolding begins has_at
begins_more [] [] x = refl
begins_more [] (y ∷ m) x = and-true (eqb x y)
begins_more (a ∷ l) [] x = refl
begins_more (a ∷ l) (y ∷ m) x = ap (λ (t : Bool). eqb a y && t) (begins_more l m x) ∙ sym (and_assoc (eqb a y) (begins l m) _)

-- as the code looks
pub has_in : (l : List ℕ) (k x : ℕ) → k < length l → has_at l k x ≡ eqb x (get_or l k 0)
unfolding has_at
has_in [] k x h = absurd (omega arith)
has_in (y ∷ l) zero x h = refl
has_in (y ∷ l) (suc k) x h = has_in l k x (omega arith)

pub has_out : (l : List ℕ) (k x : ℕ) → length l ≤ k → has_at l k x ≡ false
unfolding has_at
has_out [] k x h = refl
has_out (y ∷ l) zero x h = absurd (omega arith)
has_out (y ∷ l) (suc k) x h = has_out l k x (omega arith)

-- the edges of a list are met: how many there are, and whether the numbers held begin with them
pub record Counted (held : List ℕ) (l : List ℕ) (m : Met) : Type 0 where
  pub count : m.count ≡ length l
  pub same : m.same ≡ begins l held

-- none at length 0
pub counted_none : (b : Board) (ws held : List ℕ) → Counted held (edges b ws 0) (record { count = 0; same = true })
unfolding keep begins
counted_none b ws held = record { count = refl; same = refl }

module _ {held l : List ℕ} {m : Met} (so : Counted held l m) where
  counted_more : (x : ℕ) → Counted held (l ++ (x ∷ [])) (met_of m held true x)
  unfolding met_of
  counted_more x = record { count = omega (arith, so.count, length-append l (x ∷ [])); same = rw (so.same, so.count) (sym (begins_more l held x)) }

  counted_still : (x : ℕ) → Counted held l (met_of m held false x)
  unfolding met_of
  counted_still x = so

  -- one edge more, or none
  pub counted_next : (here : Bool) (x : ℕ) {next : List ℕ} → (here ≡ true → next ≡ l ++ (x ∷ [])) → (here ≡ false → next ≡ l) → Counted held next (met_of m held here x)
  counted_next true x more still = rw (more refl) (counted_more x)
  counted_next false x more still = rw (still refl) (counted_still x)

-- ---- the lag

module _ (σ : ℕ → Bool) (P : ℕ) (per : Periodic σ P) where
  -- of a length t, as the code has A and the least supply
  module _ (t : ℕ) {least whole : ℕ} (f : least ≡ least_supply σ P t) (g : whole ≡ per_frame σ P) where
    pub lag_order : P * least ≤ whole * t
    lag_order = rw (f, g) (least_average σ P per t)

    pub lag_is : whole * t - P * least ≡ lag σ P t
    unfolding lag
    lag_is = rw (f, g)

  -- length 0 has none
  pub lag_first : 0 ≡ greatest (lag σ P) (0 + 1)
  unfolding greatest
  lag_first = omega (arith, lag_exact σ P per 0)

  pub lag_all : (t : ℕ) → t ≤ P → P ≤ t → greatest (lag σ P) (t + 1) ≡ delay σ P
  unfolding delay
  lag_all t h l = let e : t ≡ P = omega arith in rw e
