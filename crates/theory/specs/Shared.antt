-- Tables that teams share, with any number of owners: the asked owner's windows are a legal list of windows, and no tick is supplied to two owners
use Rattle.std.specs.Prelude.{◌≡◌, Bool, ◌&&◌, ◌||◌, ◌⊎◌, ◌≢◌, leb, eqb}
use Rattle.std.proofs.Math.Path.{refl, sym, ap}
use Rattle.std.proofs.Common.{◌∙◌}
use Rattle.std.proofs.Math.Bool.{true, false, not, or-true}
use Rattle.std.proofs.lemmas.Bool.{false≢true}
use Rattle.std.proofs.Math.Logic.{inl, inr}
use Rattle.std.proofs.Math.Option.{none}
use mathlib.Core.List.{List, [], ◌∷◌}
use Prim.Native.Nat.{ℕ, zero, suc, ◌+◌, ◌-◌, ◌*◌, ◌%◌, ◌≤◌, ◌<◌}
use native.Mathlib.Omega.{arith}
use Rattle.std.proofs.Math.Decide.{ℕ_discrete, dec_lt}
use Rattle.std.proofs.Math.Dec.{ltb}
use Rattle.std.proofs.Math.ListN.{length, get_or}
use borrow.Author.Tests.{ltb-true, leb-true, eqb-true, eqb-false, eq-eqb, ne_eqb, not-false}
use Rattle.scope.specs.Numbers.{pieces, pieces_from, bad_count}
use Rattle.scope.specs.Limits.{most_windows}
use Rattle.scope.specs.Windows.{Board, windows_of, window_fits, gives, covers, supplied, supplied_by}
use Rattle.scope.specs.Answers.{Fault, Fault.fine, Fault.fault, Answer, Answer.given, Answer.refused, ◌or_else◌, unless}
use Rattle.scope.specs.Answers.{frame_fault, window_fault, table_fault}
use Rattle.scope.specs.Shared.{Owned, owned, owned_of, owned_at, windows_for, own, follows, owned_legal, bad_owned, owned_list_fault, owned_fault}
use Rattle.scope.specs.Shared.{whole_fault, absent_owner_fault, sliver_fault, lost_fault, shared_fault, unless_refused, asked_for}
use Rattle.theory.specs.Numbers.{and_both, bool_cases, or_neither, first_none}
use Rattle.theory.specs.Lists.{pieces_length, count_fine, Rising, rising_two}
use Rattle.theory.specs.Windows.{gives_in, gives_when}
use Rattle.theory.specs.MaximalRuns.{rising_rule}
use Rattle.theory.specs.Answers.{fault_if_fine, fault_at_fine, or_else_fine, window_list_fine}

abbrev pub start_at : List Owned → ℕ → ℕ
start_at ws i = (owned_at ws i).window.start

abbrev pub end_at : List Owned → ℕ → ℕ
end_at ws i = (owned_at ws i).window.end

abbrev owner_at : List Owned → ℕ → ℕ
owner_at ws i = (owned_at ws i).owner

-- ---- rule 3, window by window

pub record Ruled (owners : ℕ) (b : Board) (ws : List Owned) : Type 0 where
  pub fits : (i : ℕ) → i < length ws → (start_at ws i < end_at ws i) × (end_at ws i ≤ b.frame)
  pub exists : (i : ℕ) → i < length ws → owner_at ws i < owners
  -- no window starts before the end of an earlier one, and those of one owner do not touch
  pub apart : (i j : ℕ) → i < j → j < length ws → (end_at ws i ≤ start_at ws j) × (owner_at ws i ≡ owner_at ws j → end_at ws i < start_at ws j)

module _ (v w : Owned) where
  follows_apart : follows v w ≡ true → (v.window.end ≤ w.window.start) × (v.owner ≡ w.owner → v.window.end < w.window.start)
  unfolding follows
  follows_apart e =
      elim (bool_cases (ltb v.window.end w.window.start)) [
        | inl t ↦ let l = ltb-true v.window.end w.window.start t in (omega (arith, l), λ o. l)
        | inr f ↦
            let k = and_both (eqb v.window.end w.window.start) _ (rw f at e) in
            let other = eqb-false v.owner w.owner (not-true _ k.1) in
            (omega (arith, eqb-true v.window.end w.window.start k.0), λ o. absurd (other o))
      ]
    where
      not-true : (a : Bool) → not a ≡ true → a ≡ false
      not-true true z = absurd (false≢true z)
      not-true false z = refl

module _ (owners : ℕ) (b : Board) (ws : List Owned) (legal : bad_owned owners b ws ≡ none) where
  rule : (i : ℕ) → i < length ws → owned_legal owners b ws i ≡ true
  unfolding bad_owned
  rule i h = not-false _ (first_none (λ j. not (owned_legal owners b ws j)) (length ws) legal i h)

  rule_parts : (i : ℕ) → i < length ws → (start_at ws i < end_at ws i) × (end_at ws i ≤ b.frame) × (owner_at ws i < owners)
      × ((eqb i 0 || follows (owned_at ws (i - 1)) (owned_at ws i)) ≡ true)
  unfolding owned_legal
  rule_parts i h =
      let l = and_both (window_fits b (owned_at ws i).window && ltb (owner_at ws i) owners) _ (rule i h) in
      let n = and_both (window_fits b (owned_at ws i).window) (ltb (owner_at ws i) owners) l.0 in
      let m = and_both (ltb (start_at ws i) (end_at ws i)) (leb (end_at ws i) b.frame) n.0 in
      (ltb-true _ _ m.0, leb-true _ _ m.1, ltb-true _ _ n.1, l.1)

  next_apart : (i : ℕ) → suc i < length ws → (end_at ws i ≤ start_at ws (suc i)) × (owner_at ws i ≡ owner_at ws (suc i) → end_at ws i < start_at ws (suc i))
  next_apart i h =
      let back : suc i - 1 ≡ i = omega arith in
      let f = rw (ne_eqb (suc i) 0 (λ z. omega arith), back) at (rule_parts (suc i) h).3 in
      follows_apart (owned_at ws i) (owned_at ws (suc i)) f

  all_apart : (i j : ℕ) → i < j → j < length ws → (end_at ws i ≤ start_at ws j) × (owner_at ws i ≡ owner_at ws j → end_at ws i < start_at ws j)
  all_apart i zero h l = absurd (omega arith)
  all_apart i (suc j) h l =
      elim (ℕ_discrete i j) [
        | yes e ↦ rw e (next_apart j l)
        | no u ↦
            let s : end_at ws i < start_at ws (suc j) =
            omega (arith, (all_apart i j (omega arith) (omega arith)).0, (rule_parts j (omega arith)).0, (next_apart j l).0) in
            (omega arith, λ o. s)
      ]

  pub ruled : Ruled owners b ws
  ruled = record {
    fits = λ i h. let r = rule_parts i h in (r.0, r.1);
    exists = λ i h. (rule_parts i h).2;
    apart = all_apart;
  }

-- what is left after the first window keeps the rule
rest_ruled : (owners : ℕ) (b : Board) (w : Owned) (ws : List Owned) → Ruled owners b (w ∷ ws) → Ruled owners b ws
rest_ruled owners b w ws r = record {
  fits = λ i h. r.fits (suc i) (omega arith);
  exists = λ i h. r.exists (suc i) (omega arith);
  apart = λ i j l h. r.apart (suc i) (suc j) (omega arith) (omega arith);
}

-- ---- the windows of one owner are a legal list

module _ (o : ℕ) where
  hit : (w : Owned) (ws : List Owned) → w.owner ≡ o → windows_for o (w ∷ ws) ≡ w.window.start ∷ w.window.end ∷ windows_for o ws
  unfolding windows_for
  hit w ws e = rw (eq-eqb w.owner o e)

  miss : (w : Owned) (ws : List Owned) → w.owner ≢ o → windows_for o (w ∷ ws) ≡ windows_for o ws
  unfolding windows_for
  miss w ws u = rw (ne_eqb w.owner o u)

  pub for_even : (ws : List Owned) → length (windows_for o ws) % 2 ≡ 0
  unfolding windows_for
  for_even [] = refl
  for_even (w ∷ ws) =
      elim (ℕ_discrete w.owner o) [
        | yes e ↦ ap (λ (l : List ℕ). length l % 2) (hit w ws e) ∙ omega (arith, for_even ws)
        | no u ↦ ap (λ (l : List ℕ). length l % 2) (miss w ws u) ∙ for_even ws
      ]

  pub for_few : (ws : List Owned) → length (windows_for o ws) ≤ 2 * length ws
  unfolding windows_for
  for_few [] = omega arith
  for_few (w ∷ ws) =
      elim (ℕ_discrete w.owner o) [
        | yes e ↦ omega (arith, ap length (hit w ws e), for_few ws)
        | no u ↦ omega (arith, ap length (miss w ws u), for_few ws)
      ]

  -- an owner that none of the windows has
  for_none : (ws : List Owned) → ((i : ℕ) → i < length ws → owner_at ws i ≢ o) → windows_for o ws ≡ []
  unfolding windows_for
  for_none [] h = refl
  for_none (w ∷ ws) h = miss w ws (h 0 (omega arith)) ∙ for_none ws (λ i l. h (suc i) (omega arith))

module _ (owners : ℕ) (b : Board) (o : ℕ) where
  -- numbers of an owner's windows are above what its windows start after
  above : (m : ℕ) (ws : List Owned) → Ruled owners b ws → ((i : ℕ) → i < length ws → owner_at ws i ≡ o → m < start_at ws i) →
      (k : ℕ) → k < length (windows_for o ws) → m < get_or (windows_for o ws) k 0
  unfolding windows_for
  above m [] r h k u = absurd (omega arith)
  above m (w ∷ ws) r h k u =
      let later = above m ws (rest_ruled owners b w ws r) (λ i l e. h (suc i) (omega arith) e) in
      elim (ℕ_discrete w.owner o) [
        | yes e ↦ rw (hit o w ws e) (go later (h 0 (omega arith) e) k (rw (hit o w ws e) at u))
        | no v ↦ rw (miss o w ws v) (later k (rw (miss o w ws v) at u))
      ]
    where
      go : ((k : ℕ) → k < length (windows_for o ws) → m < get_or (windows_for o ws) k 0) → m < w.window.start →
          (k : ℕ) → k < length (w.window.start ∷ w.window.end ∷ windows_for o ws) →
          m < get_or (w.window.start ∷ w.window.end ∷ windows_for o ws) k 0
      go later s zero l = s
      go later s (suc zero) l = omega (arith, (r.fits 0 (omega arith)).0)
      go later s (suc (suc k)) l = later k (omega arith)

  pub for_rising : (ws : List Owned) → Ruled owners b ws → Rising (windows_for o ws) (b.frame + 1)
  unfolding windows_for
  for_rising [] r = record { below = λ i h. absurd (omega arith); up = λ i j l h. absurd (omega arith) }
  for_rising (w ∷ ws) r =
      let tail = rest_ruled owners b w ws r in
      let f = r.fits 0 (omega arith) in
      elim (ℕ_discrete w.owner o) [
        | yes e ↦
            let past = above w.window.end ws tail (λ i l z. (r.apart 0 (suc i) (omega arith) (omega arith)).1 (e ∙ sym z)) in
            rw (hit o w ws e) (rising_two w.window.start w.window.end (windows_for o ws) (b.frame + 1) f.0 (omega (arith, f.1)) past (for_rising ws tail))
        | no u ↦ rw (miss o w ws u) (for_rising ws tail)
      ]

  -- ---- which ticks an owner is supplied: those of its windows

  pub record Gives (ws : List Owned) (k : ℕ) : Type 0 where
    pub index : ℕ
    pub there : index < length ws
    pub owner : owner_at ws index ≡ o
    pub since : b.lost + start_at ws index ≤ k
    pub until : k < end_at ws index

  -- an owner's tick is a tick of one of its windows, and the other way round
  pub covers_given : (ws : List Owned) (k : ℕ) → covers b.lost (windows_of (windows_for o ws)) k ≡ true → Gives ws k
  unfolding windows_for covers pieces pieces_from
  covers_given [] k e = absurd (false≢true e)
  covers_given (w ∷ ws) k e =
      elim (ℕ_discrete w.owner o) [
        | yes z ↦ go z (rw (hit o w ws z) at e) (bool_cases (gives b.lost w.window k)) (covers_given ws k)
        | no u ↦ later (covers_given ws k (rw (miss o w ws u) at e))
      ]
    where
      later : Gives ws k → Gives (w ∷ ws) k
      later g = record { index = suc g.index; there = omega (arith, g.there); owner = g.owner; since = g.since; until = g.until }

      go : w.owner ≡ o → (gives b.lost w.window k || covers b.lost (windows_of (windows_for o ws)) k) ≡ true → (gives b.lost w.window k ≡ true) ⊎ (gives b.lost w.window k ≡ false) →
          (covers b.lost (windows_of (windows_for o ws)) k ≡ true → Gives ws k) → Gives (w ∷ ws) k
      go z e (inl t) g = let m = gives_when b.lost w.window k t in record { index = 0; there = omega arith; owner = z; since = m.0; until = m.1 }
      go z e (inr f) g = later (g (rw f at e))

  pub given_covers : (ws : List Owned) (k : ℕ) → Gives ws k → covers b.lost (windows_of (windows_for o ws)) k ≡ true
  unfolding windows_for covers pieces pieces_from
  given_covers [] k g = absurd (omega (arith, g.there))
  given_covers (w ∷ ws) k g =
      elim (ℕ_discrete w.owner o) [
        | yes z ↦ rw (hit o w ws z) (go g.index g refl (given_covers ws k))
        | no u ↦ rw (miss o w ws u) (given_covers ws k (later u g.index g refl))
      ]
    where
      rest : (i : ℕ) (g : Gives (w ∷ ws) k) → g.index ≡ suc i → Gives ws k
      rest i g e = record {
        index = i;
        there = omega (arith, g.there);
        owner = rw e at g.owner;
        since = rw e at g.since;
        until = rw e at g.until;
      }

      go : (i : ℕ) (g : Gives (w ∷ ws) k) → g.index ≡ i → (Gives ws k → covers b.lost (windows_of (windows_for o ws)) k ≡ true) →
          (gives b.lost w.window k || covers b.lost (windows_of (windows_for o ws)) k) ≡ true
      go zero g e h = rw (gives_in b.lost w.window k (rw e at g.since) (rw e at g.until))
      go (suc i) g e h = rw (h (rest i g e)) (or-true (gives b.lost w.window k))

      later : w.owner ≢ o → (i : ℕ) (g : Gives (w ∷ ws) k) → g.index ≡ i → Gives ws k
      later u zero g e = absurd (u (rw e at g.owner))
      later u (suc i) g e = rest i g e

-- ---- checks

module _ (owners : ℕ) (b : Board) (ws : List ℕ) where
  pub record Whole : Type 0 where
    pub threes : length ws % 3 ≡ 0
    pub few : length (owned_of ws) ≤ most_windows
    pub framed : frame_fault b ≡ fine
    pub ruled : Ruled owners b (owned_of ws)

  -- what a list without a fault 1, 2 or 3 keeps
  pub whole : whole_fault owners b ws ≡ fine → Whole
  unfolding whole_fault owned_list_fault owned_fault
  whole e =
      let p = or_else_fine (owned_list_fault ws) (frame_fault b or_else owned_fault owners b (owned_of ws)) e in
      let q = or_else_fine (frame_fault b) (owned_fault owners b (owned_of ws)) p.1 in
      let l = or_neither (bad_count 3 most_windows ws) (eqb (length ws) 0) (fault_if_fine _ 1 0 p.0) in
      let c = count_fine 3 most_windows ws l.0 in
      record {
        threes = c.0;
        few = omega (arith, c.1, pieces_length Owned 3 owned ws);
        framed = q.0;
        ruled = ruled owners b (owned_of ws) (fault_at_fine 3 (bad_owned owners b (owned_of ws)) q.1);
      }

  pub shared_parts : shared_fault owners b ws ≡ fine →
      (whole_fault owners b ws ≡ fine) × (absent_owner_fault b ws ≡ fine) × (sliver_fault b ws ≡ fine) × (lost_fault b (own b ws) ≡ fine)
  unfolding shared_fault
  shared_parts e =
      let p = or_else_fine (whole_fault owners b ws) (absent_owner_fault b ws or_else sliver_fault b ws or_else lost_fault b (own b ws)) e in
      let q = or_else_fine (absent_owner_fault b ws) (sliver_fault b ws or_else lost_fault b (own b ws)) p.1 in
      let r = or_else_fine (sliver_fault b ws) (lost_fault b (own b ws)) q.1 in
      (p.0, q.0, r.0, r.1)

  pub own_few : whole_fault owners b ws ≡ fine → length (own b ws) ≤ 2 * most_windows
  own_few e = omega (arith, for_few b.owner (owned_of ws), (whole e).few)

  -- the windows of an owner that has one are a list of windows without a fault
  pub present_fine : whole_fault owners b ws ≡ fine → absent_owner_fault b ws ≡ fine → table_fault b (own b ws) ≡ fine
  unfolding table_fault window_fault absent_owner_fault
  present_fine e a =
      let w = whole e in
      let filled = eqb-false (length (own b ws)) 0 (fault_if_fine _ 1 0 a) in
      rw (
        window_list_fine (own b ws) (for_even b.owner (owned_of ws)) (omega (arith, filled)) (own_few e),
        w.framed,
        rising_rule b (own b ws) (for_rising owners b b.owner (owned_of ws) w.ruled),
      )

  -- so are those of the owner that is asked for
  pub own_fine : shared_fault owners b ws ≡ fine → table_fault b (own b ws) ≡ fine
  own_fine e = let p = shared_parts e in present_fine p.0 p.1

  -- no such owner has a window in a list that keeps rule 3, so whoever asks for it is refused as an owner with no window is
  pub no_such_owner : whole_fault owners b ws ≡ fine → owners ≤ b.owner → shared_fault owners b ws ≡ fault 1 0
  unfolding shared_fault absent_owner_fault
  no_such_owner e h =
      let r = (whole e).ruled in
      rw (e, for_none b.owner (owned_of ws) (λ i l z. omega (arith, r.exists i l)))

-- no tick is supplied to two owners
pub one_owner_a_tick : (owners : ℕ) (b c : Board) (ws : List ℕ) → whole_fault owners b ws ≡ fine → b.frame ≡ c.frame → (k : ℕ) →
    supplied_by b (own b ws) k ≡ true → supplied_by c (own c ws) k ≡ true → b.owner ≡ c.owner
unfolding supplied
one_owner_a_tick owners b c ws e same k p q =
    let r = (whole owners b ws e).ruled in
    let g = covers_given owners b b.owner (owned_of ws) (k % b.frame) p in
    let h = covers_given owners c c.owner (owned_of ws) (k % c.frame) q in
    let z : k % b.frame ≡ k % c.frame = ap (λ (P : ℕ). k % P) same in
    elim (ℕ_discrete g.index h.index) [
      | yes i ↦ sym g.owner ∙ ap (owner_at (owned_of ws)) i ∙ h.owner
      | no u ↦ elim (dec_lt g.index h.index) [
        | yes l ↦ absurd (omega (arith, (r.apart g.index h.index l h.there).0, g.until, h.since, z))
        | no l ↦ absurd (omega (arith, (r.apart h.index g.index (omega arith) g.there).0, h.until, g.since, z))
      ]
    ]

-- ---- what is answered

module _ {R : Type 0} (owners : ℕ) (b : Board) (ws : List ℕ) (refusal : ℕ → ℕ → R) (entry : List ℕ → R) where
  pub asked_fine : shared_fault owners b ws ≡ fine → asked_for owners b ws refusal entry ≡ entry (own b ws)
  unfolding asked_for
  asked_fine e = rw e

  pub asked_refused : {n p : ℕ} → shared_fault owners b ws ≡ fault n p → asked_for owners b ws refusal entry ≡ refusal n p
  unfolding asked_for
  asked_refused e = rw e

-- entries that give the owner's windows the same
pub asked_same : {R : Type 0} (owners : ℕ) (b : Board) (ws : List ℕ) (refusal : ℕ → ℕ → R) (entry other : List ℕ → R) →
    entry (own b ws) ≡ other (own b ws) → asked_for owners b ws refusal entry ≡ asked_for owners b ws refusal other
unfolding asked_for
asked_same owners b ws refusal entry other e = ap (unless_refused (shared_fault owners b ws) refusal) e

-- a value is given only where the list has no fault, and then it is what the owner's windows get
pub asked_given : {A : Type 0} (owners : ℕ) (b : Board) (ws : List ℕ) (entry : List ℕ → Answer A) (v : A) →
    asked_for owners b ws refused entry ≡ given v → (shared_fault owners b ws ≡ fine) × (entry (own b ws) ≡ given v)
unfolding asked_for
asked_given owners b ws entry v = go (shared_fault owners b ws)
  where
    go : (f : Fault) → unless_refused f refused (entry (own b ws)) ≡ given v → (f ≡ fine) × (entry (own b ws) ≡ given v)
    go fine e = (refl, e)
    go (fault n p) e = let z : ◌≡◌ {A = ℕ} 0 1 = cc in absurd (omega arith)

-- the list's fault takes the place of the table's in an entry's order
pub asked_unless : {A : Type 0} (owners : ℕ) (b : Board) (ws : List ℕ) (rest : Fault) (value : List ℕ → A) →
    asked_for owners b ws refused (λ l. unless (table_fault b l or_else rest) (value l)) ≡ unless (shared_fault owners b ws or_else rest) (value (own b ws))
unfolding asked_for
asked_unless owners b ws rest value = go (shared_fault owners b ws) refl
  where
    go : (f : Fault) → shared_fault owners b ws ≡ f →
        unless_refused f refused (unless (table_fault b (own b ws) or_else rest) (value (own b ws))) ≡ unless (f or_else rest) (value (own b ws))
    go fine e = rw (own_fine owners b ws e)
    go (fault n p) e = refl
