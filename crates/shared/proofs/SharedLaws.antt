-- The rule of windows with owners, by the cases that the code tells apart; and the windows of one owner, one after the other
use mathlib.Core.Path.{◌≡◌, refl, sym, ap, ap₂, ◌∙◌}
use mathlib.Core.Bool.{Bool, true, false, not, cond, ◌&&◌, ◌||◌, true≢false}
use mathlib.Core.Logic.{◌≢◌}
use mathlib.Core.Option.{none, some}
use mathlib.Core.List.{List, [], ◌∷◌, ◌++◌, append-nil, append_assoc}
use Prim.Native.Nat.{ℕ, zero, suc, ◌+◌, ◌-◌, ◌*◌, ◌/◌, ◌≤◌, ◌<◌}
use native.Mathlib.Omega.{arith}
use native.Mathlib.Numerals.{add-one}
use lib.Dec.{ltb, eqb}
use lib.ListN.{length, get_or, set, take, drop, length-append, length-set, take-append-drop}
use lib.Seq.{take-suc, take-length, length-take-le}
use borrow.Author.Tests.{ltb-true, lt-ltb, le-ltb, eq-eqb, ne_eqb}
use Rattle.shared.specs.Lent.{own_table_answer}
use Rattle.scope.specs.Limits.{most_windows}
use Rattle.scope.specs.Numbers.{first_by, pieces, pieces_from, written}
use Rattle.scope.specs.Windows.{Board, Window, window, windows_of, window_fits, framed}
use Rattle.scope.specs.Answers.{Fault, Fault.fine, Fault.fault, Answer, Answer.given, Answer.refused, fault_if, fault_at, ◌or_else◌, unless, rule_fault, window_answer}
use Rattle.scope.specs.Shared.{Owned, owned, owned_at, windows_for, own, left_of, own_left, as_owned, follows, owned_legal, bad_owned, owned_fault, owned_answer, own_answer}
use Rattle.std.specs.declared.result.Result.{Result}
use Rattle.std.specs.declared.result.Result.TheVariants.{Ok, Err}
use Rattle.std.specs.Result.{is_ok}
use Rattle.tables.specs.declared.answer.Refusal.{Refusal}
use Rattle.tables.specs.Told.{number, place}
use Rattle.shared.specs.declared.table.Owned as owned_record
use Rattle.shared.specs.Told.{owned_by, told_owned}
use Rattle.std.specs.List.{range_with_len, filter, list_any}
use Rattle.theory.specs.Numbers.{and_both}
use Rattle.theory.specs.Lists.{pieces_length, pieces_append}
use Rattle.theory.specs.Buffers.{written_more}
use Rattle.theory.specs.Shared.{for_even}
use Rattle.theory.specs.Left.{left_few}
use Rattle.theory.specs.Losses.{rule_or}
use Rattle.theory.specs.Alone.{owned_length}
use Rattle.theory.specs.Lent.{not_taken}
use Rattle.tables.proofs.FaultLaws.{keeps, breaks, refused_there}
use Rattle.tables.proofs.WindowLaws.{unfitting, window_alone_lem}

-- ---- the rule

-- a window alone with its owner
pub owned_alone_lem : (owners : ℕ) (b : Board) (w : Owned) (t u : Bool) → window_fits b w.window ≡ t → ltb w.owner owners ≡ u →
    cond (t && u) (given w) (refused 3 0) ≡ owned_answer owners b w
unfolding owned_answer owned_fault bad_owned first_by owned_legal
owned_alone_lem owners b w t u e f =
    sym (ap₂ (λ (x y : Bool). unless (fault_at 3 (cond (not ((x && y) && true)) (some 0) none)) w) e f ∙ go (t && u))
  where
    go : (x : Bool) → unless (fault_at 3 (cond (not (x && true)) (some 0) none)) w ≡ cond x (given w) (refused 3 0)
    go true = refl
    go false = refl

-- a window that is refused alone is refused with its owner
pub unfit_owned : (owners : ℕ) (b : Board) (s e o : ℕ) {n p : ℕ} → refused n p ≡ window_answer (framed b.frame) (window s e) → refused n p ≡ owned_answer owners b (owned s e o)
unfit_owned owners b s e o {n} {p} r =
    let f = unfitting (framed b.frame) (window s e) n p r in
    let z : ◌≡◌ {A = Answer Window} (refused n p) (refused 3 0) = r ∙ sym (window_alone_lem (framed b.frame) (window s e) false f) in
    let number : n ≡ 3 = cc in
    let place : p ≡ 0 = cc in
    rw (number, place) (owned_alone_lem owners b (owned s e o) false _ f refl)

module _ (owners : ℕ) (b : Board) where
  abbrev pub alone : Owned → Bool
  alone w = window_fits b w.window && ltb w.owner owners

  -- what is made of it tells whether it keeps its rule alone
  made_alone : (w : Owned) (r : Result owned_record.Owned Refusal) → told_owned r ≡ owned_answer owners b w → is_ok r ≡ alone w
  made_alone w (Ok v) e = sym (keeps (alone w) w 3 0 (owned_by v) (e ∙ sym (owned_alone_lem owners b w _ _ refl refl))).0
  made_alone w (Err r) e = sym (breaks (alone w) w 3 0 (number r) (place r) (e ∙ sym (owned_alone_lem owners b w _ _ refl refl)))

  -- a window of the list that was read
  pub read_alone : {w v : Owned} (r : Result owned_record.Owned Refusal) {t u : Bool} → told_owned r ≡ owned_answer owners b w → w ≡ v → t ≡ is_ok r → t ≡ u → alone v ≡ u
  read_alone {w} {v} r made read ok is = ap alone (sym read) ∙ sym (made_alone w r made) ∙ sym ok ∙ is

  module _ (ws : List Owned) (i : ℕ) where
    pub broken : alone (owned_at ws i) ≡ false → false ≡ owned_legal owners b ws i
    unfolding owned_legal
    broken e = rw e

    module _ (fits : alone (owned_at ws i) ≡ true) where
      pub first_owned : i ≡ 0 → true ≡ owned_legal owners b ws i
      unfolding owned_legal
      first_owned e = rw (fits, eq-eqb i 0 e)

      pub next_owned : i ≢ 0 → follows (owned_at ws (i - 1)) (owned_at ws i) ≡ owned_legal owners b ws i
      unfolding owned_legal
      next_owned e = rw (fits, ne_eqb i 0 e)

-- ---- numbers that are gathered window by window: the windows of owner o, and what is left of them

pub record Gathers (f : List Owned → List ℕ) : Type 0 where
  pub empty : f [] ≡ []
  pub append : (vs ws : List Owned) → f (vs ++ ws) ≡ f vs ++ f ws

for_append : (o : ℕ) (vs ws : List Owned) → windows_for o (vs ++ ws) ≡ windows_for o vs ++ windows_for o ws
unfolding windows_for
for_append o [] ws = refl
for_append o (v ∷ vs) ws = go (eqb v.owner o) (for_append o vs ws)
  where
    go : (t : Bool) → windows_for o (vs ++ ws) ≡ windows_for o vs ++ windows_for o ws →
        cond t (v.window.start ∷ v.window.end ∷ windows_for o (vs ++ ws)) (windows_for o (vs ++ ws))
        ≡ cond t (v.window.start ∷ v.window.end ∷ windows_for o vs) (windows_for o vs) ++ windows_for o ws
    go true e = ap (λ (l : List ℕ). v.window.start ∷ v.window.end ∷ l) e
    go false e = e

pub gathers_own : (o : ℕ) → Gathers (windows_for o)
unfolding windows_for
gathers_own o = record { empty = refl; append = for_append o }

abbrev pub left_for : Board → List Owned → List ℕ
left_for b ws = left_of b.lost (windows_of (windows_for b.owner ws))

left_append : (q : ℕ) (vs ws : List Window) → left_of q (vs ++ ws) ≡ left_of q vs ++ left_of q ws
unfolding left_of
left_append q [] ws = refl
left_append q (v ∷ vs) ws = go (ltb q (v.end - v.start)) (left_append q vs ws)
  where
    go : (t : Bool) → left_of q (vs ++ ws) ≡ left_of q vs ++ left_of q ws →
        cond t ((q + v.start) ∷ v.end ∷ left_of q (vs ++ ws)) (left_of q (vs ++ ws))
        ≡ cond t ((q + v.start) ∷ v.end ∷ left_of q vs) (left_of q vs) ++ left_of q ws
    go true e = ap (λ (l : List ℕ). (q + v.start) ∷ v.end ∷ l) e
    go false e = e

pub gathers_left : (b : Board) → Gathers (left_for b)
unfolding windows_for left_of pieces pieces_from
gathers_left b = record { empty = refl; append = append }
  where
    append : (vs ws : List Owned) → left_for b (vs ++ ws) ≡ left_for b vs ++ left_for b ws
    append vs ws =
        let o = b.owner in
        let even = for_even o vs in
        ap (λ (l : List ℕ). left_of b.lost (windows_of l)) (for_append o vs ws)
        ∙ ap (left_of b.lost) (pieces_append Window 2 window (omega arith) (length (windows_for o vs) / 2) (windows_for o vs) (windows_for o ws) (omega arith))
        ∙ left_append b.lost (windows_of (windows_for o vs)) (windows_of (windows_for o ws))

module _ (f : List Owned → List ℕ) (is : Gathers f) (ws : List Owned) where
  -- of the first i windows
  abbrev pub front : ℕ → List ℕ
  front i = f (take i ws)

  pub front_none : front 0 ≡ []
  front_none = is.empty

  pub front_all : (i : ℕ) → length ws ≤ i → i ≤ length ws → front i ≡ f ws
  front_all i h l = let e : i ≡ length ws = omega arith in rw (e, take-length ws)

  pub front_few : (i : ℕ) → length (front i) ≤ length (f ws)
  front_few i =
      omega (arith, ap length (is.append (take i ws) (drop i ws)), ap (λ (l : List Owned). length (f l)) (take-append-drop i ws), length-append (front i) (f (drop i ws)))

  module _ (i : ℕ) (h : i < length ws) {w : Owned} (read : w ≡ owned_at ws i) where
    more : front (i + 1) ≡ front i ++ f (w ∷ [])
    more = rw (add-one i, take-suc ws i (owned 0 0 0) h, ← read) (is.append (take i ws) (w ∷ []))

    -- a window that comes with two numbers, or with none
    pub front_hit : (s e : ℕ) → f (w ∷ []) ≡ s ∷ e ∷ [] → front (i + 1) ≡ front i ++ (s ∷ e ∷ [])
    front_hit s e z = more ∙ ap (λ (l : List ℕ). front i ++ l) z

    pub front_miss : f (w ∷ []) ≡ [] → front (i + 1) ≡ front i
    front_miss z = more ∙ ap (λ (l : List ℕ). front i ++ l) z ∙ append-nil _

    pub count_hit : (s e : ℕ) → f (w ∷ []) ≡ s ∷ e ∷ [] → length (front (i + 1)) ≡ length (front i) + 2
    count_hit s e z = ap length (front_hit s e z) ∙ length-append (front i) (s ∷ e ∷ [])

-- how many windows come, and whether one does, by a test that tells which
module _ (f : List Owned → List ℕ) (is : Gathers f) (test : Owned → Bool)
    (hit : (w : Owned) → test w ≡ true → length (f (w ∷ [])) ≡ 2) (miss : (w : Owned) → test w ≡ false → length (f (w ∷ [])) ≡ 0) where
  -- the windows are read one after the other, from index a on
  abbrev Reads : List Owned → ℕ → (ℕ → Bool) → Type 0
  Reads ws a read = (i : ℕ) → i < length ws → read (a + i) ≡ test (owned_at ws i)

  first_length : (w : Owned) (ws : List Owned) → length (f (w ∷ ws)) ≡ length (f (w ∷ [])) + length (f ws)
  first_length w ws = ap length (is.append (w ∷ []) ws) ∙ length-append (f (w ∷ [])) (f ws)

  reads_first : (w : Owned) (ws : List Owned) (a : ℕ) (read : ℕ → Bool) → Reads (w ∷ ws) a read → read a ≡ test w
  reads_first w ws a read r = let e : a + 0 ≡ a = omega arith in ap read (sym e) ∙ r 0 (omega arith)

  reads_rest : (w : Owned) (ws : List Owned) (a : ℕ) (read : ℕ → Bool) → Reads (w ∷ ws) a read → Reads ws (a + 1) read
  reads_rest w ws a read r i h = let e : a + 1 + i ≡ a + suc i = omega arith in ap read e ∙ r (suc i) (omega arith)

  count_from : (ws : List Owned) (a : ℕ) (read : ℕ → Bool) → Reads ws a read → 2 * length (filter read (range_with_len a (length ws))) ≡ length (f ws)
  count_from [] a read r = sym (ap length is.empty)
  count_from (w ∷ ws) a read r = go (read a) (reads_first w ws a read r) (count_from ws (a + 1) read (reads_rest w ws a read r))
    where
      rest : List ℕ
      rest = filter read (range_with_len (a + 1) (length ws))

      go : (t : Bool) → t ≡ test w → 2 * length rest ≡ length (f ws) → 2 * length (cond t (a ∷ rest) rest) ≡ length (f (w ∷ ws))
      go true e n = omega (arith, n, first_length w ws, hit w (sym e))
      go false e n = omega (arith, n, first_length w ws, miss w (sym e))

  any_from : (ws : List Owned) (a : ℕ) (read : ℕ → Bool) → Reads ws a read → list_any read (range_with_len a (length ws)) ≡ ltb 0 (length (f ws))
  any_from [] a read r = sym (le-ltb 0 (length (f [])) (omega (arith, ap length is.empty)))
  any_from (w ∷ ws) a read r = go (read a) (reads_first w ws a read r) (any_from ws (a + 1) read (reads_rest w ws a read r))
    where
      go : (t : Bool) {u : Bool} → t ≡ test w → u ≡ ltb 0 (length (f ws)) → (t || u) ≡ ltb 0 (length (f (w ∷ ws)))
      go true e n = sym (lt-ltb 0 (length (f (w ∷ ws))) (omega (arith, first_length w ws, hit w (sym e))))
      go false e n = n ∙ ap (ltb 0) (omega (arith, first_length w ws, miss w (sym e)))

  -- all of them
  module _ (ws : List Owned) where
    abbrev read : ℕ → Bool
    read i = test (owned_at ws i)

    from_zero : Reads ws 0 read
    from_zero i h = let e : 0 + i ≡ i = omega arith in ap read e

    pub count_read : 2 * length (filter read (range_with_len 0 (length ws))) ≡ length (f ws)
    count_read = count_from ws 0 read from_zero

    pub any_read : list_any read (range_with_len 0 (length ws)) ≡ ltb 0 (length (f ws))
    any_read = any_from ws 0 read from_zero

module _ (o : ℕ) (w : Owned) where
  pub own_hit : w.owner ≡ o → windows_for o (w ∷ []) ≡ w.window.start ∷ w.window.end ∷ []
  unfolding windows_for
  own_hit e = rw (eq-eqb w.owner o e)

  pub own_miss : w.owner ≢ o → windows_for o (w ∷ []) ≡ []
  unfolding windows_for
  own_miss u = rw (ne_eqb w.owner o u)

module _ (b : Board) (w : Owned) where
  -- the window is the asked owner's, and is longer than what is lost
  abbrev pub is_left : Bool
  is_left = eqb w.owner b.owner && ltb b.lost (w.window.end - w.window.start)

  pub left_hit : is_left ≡ true → left_for b (w ∷ []) ≡ (b.lost + w.window.start) ∷ w.window.end ∷ []
  unfolding windows_for left_of pieces pieces_from
  left_hit e = let p = and_both (eqb w.owner b.owner) _ e in rw (p.0, p.1)

  -- the start that is moved stays before the end
  pub left_moved : is_left ≡ true → b.lost + w.window.start < w.window.end
  left_moved e =
      let p = and_both (eqb w.owner b.owner) _ e in
      omega (arith, ltb-true b.lost (w.window.end - w.window.start) p.1)

  pub left_miss : is_left ≡ false → left_for b (w ∷ []) ≡ []
  unfolding windows_for left_of pieces pieces_from
  left_miss = go (eqb w.owner b.owner) refl (ltb b.lost (w.window.end - w.window.start)) refl
    where
      go : (t : Bool) → eqb w.owner b.owner ≡ t → (u : Bool) → ltb b.lost (w.window.end - w.window.start) ≡ u →
          (t && u) ≡ false → left_for b (w ∷ []) ≡ []
      go false z u x e = rw z
      go true z false x e = rw (z, x)
      go true z true x e = absurd (true≢false e)

-- ---- an owner that is left no tick

-- what is left has no more numbers than the windows have
pub left_fewer : (b : Board) (ws : List ℕ) → length (own_left b ws) ≤ length (own b ws)
left_fewer b ws = omega (arith, left_few b.lost (windows_of (own b ws)), pieces_length Window 2 window (own b ws))

module _ (b : Board) (left : ℕ) where
  pub none_left : left ≡ 0 → fault 13 0 ≡ (rule_fault b or_else fault_if (eqb left 0) 13 0)
  none_left e = rw (eq-eqb left 0 e) (rule_or b)

  pub some_left : left ≢ 0 → rule_fault b ≡ (rule_fault b or_else fault_if (eqb left 0) 13 0)
  some_left u = rw (ne_eqb left 0 u) (go (rule_fault b))
    where
      go : (f : Fault) → f ≡ (f or_else fine)
      go fine = refl
      go (fault n p) = refl

-- where there is room for as many windows as a table may have, the table is refused as what is left is
pub none_lent : (owners : ℕ) (b : Board) (ws : List ℕ) (room : ℕ) {n p : ℕ} → refused n p ≡ own_answer owners b ws room → 2 * most_windows ≤ room → refused n p ≡ own_table_answer owners b ws
unfolding own_table_answer
none_lent owners b ws room {n} {p} e h = refused_there _ (sym (not_taken owners b ws room n p h (sym e)))

-- two numbers more in the lent memory
pub length_two : (out : List ℕ) (i j s e : ℕ) → length (set (set out i s) j e) ≡ length out
length_two out i j s e = length-set (set out i s) j e ∙ length-set out i s

pub written_two : (l d : List ℕ) (at s e : ℕ) (out : List ℕ) → at ≡ length l → out ≡ written l d → at + 1 < length d →
    set (set out at s) (at + 1) e ≡ written (l ++ (s ∷ e ∷ [])) d
written_two l d at s e out len is h =
    let more : length (l ++ (s ∷ [])) ≡ at + 1 = length-append l (s ∷ []) ∙ omega arith in
    ap₂ (λ (o : List ℕ) (n : ℕ). set (set o n s) (at + 1) e) is len
    ∙ ap (λ (o : List ℕ). set o (at + 1) e) (written_more l d s (omega arith))
    ∙ ap (λ (n : ℕ). set (written (l ++ (s ∷ [])) d) n e) (sym more)
    ∙ written_more (l ++ (s ∷ [])) d e (omega (arith, more))
    ∙ ap (λ (m : List ℕ). written m d) (append_assoc l (s ∷ []) (e ∷ []))

-- ---- pairs as threes of one owner

module _ (o : ℕ) where
  -- after whole pairs the reading starts afresh
  owned_append : (n : ℕ) (l r : List ℕ) → length l ≡ 2 * n → as_owned o (l ++ r) ≡ as_owned o l ++ as_owned o r
  unfolding as_owned
  owned_append n [] r h = refl
  owned_append n (s ∷ []) r h = absurd (omega arith)
  owned_append zero (s ∷ e ∷ l) r h = absurd (omega arith)
  owned_append (suc n) (s ∷ e ∷ l) r h = ap (λ (m : List ℕ). s ∷ e ∷ o ∷ m) (owned_append n l r (omega arith))

  -- the threes of the first i pairs
  abbrev pub threes : List ℕ → ℕ → List ℕ
  threes ws i = as_owned o (take (2 * i) ws)

  pub threes_none : (ws : List ℕ) → threes ws 0 ≡ []
  unfolding as_owned
  threes_none ws = refl

  module _ (ws : List ℕ) (i : ℕ) where
    pub threes_length : 2 * i ≤ length ws → length (threes ws i) ≡ 3 * i
    threes_length h =
        let l : length (take (2 * i) ws) ≡ 2 * i = length-take-le (2 * i) ws h in
        let n = owned_length o (take (2 * i) ws) in
        omega (arith, l, n)

    pub threes_more : 2 * i + 1 < length ws → threes ws (i + 1) ≡ threes ws i ++ (get_or ws (2 * i) 0 ∷ get_or ws (2 * i + 1) 0 ∷ o ∷ [])
    unfolding as_owned
    threes_more h =
        let two : 2 * (i + 1) ≡ suc (suc (2 * i)) = omega arith in
        let one : 2 * i + 1 ≡ suc (2 * i) = omega arith in
        rw (two, take-suc ws (suc (2 * i)) 0 (omega arith), take-suc ws (2 * i) 0 (omega arith), append_assoc, one)
        (owned_append i (take (2 * i) ws) (get_or ws (2 * i) 0 ∷ get_or ws (suc (2 * i)) 0 ∷ []) (length-take-le (2 * i) ws (omega arith)))

    -- all of them, where none is left over, and where one is
    pub threes_all : length ws ≡ 2 * i → threes ws i ≡ as_owned o ws
    threes_all e = rw (← e, take-length ws)

    pub threes_left : length ws ≡ suc (2 * i) → as_owned o ws ≡ threes ws i ++ (get_or ws (2 * i) 0 ∷ [])
    unfolding as_owned
    threes_left e =
        ap (as_owned o) (sym (take-length ws) ∙ ap (λ (n : ℕ). take n ws) e ∙ take-suc ws (2 * i) 0 (omega arith))
        ∙ owned_append i (take (2 * i) ws) (get_or ws (2 * i) 0 ∷ []) (length-take-le (2 * i) ws (omega arith))

-- three numbers more in the lent memory
pub written_three : (l d : List ℕ) (at s e o : ℕ) (out : List ℕ) → at ≡ length l → out ≡ written l d → at + 2 < length d →
    set (set (set out at s) (at + 1) e) (at + 2) o ≡ written (l ++ (s ∷ e ∷ o ∷ [])) d
written_three l d at s e o out len is h =
    let more : length (l ++ (s ∷ e ∷ [])) ≡ at + 2 = length-append l (s ∷ e ∷ []) ∙ omega arith in
    ap (λ (m : List ℕ). set m (at + 2) o) (written_two l d at s e out len is (omega arith))
    ∙ ap (λ (n : ℕ). set (written (l ++ (s ∷ e ∷ [])) d) n o) (sym more)
    ∙ written_more (l ++ (s ∷ e ∷ [])) d o (omega (arith, more))
    ∙ ap (λ (m : List ℕ). written m d) (append_assoc l (s ∷ e ∷ []) (o ∷ []))
