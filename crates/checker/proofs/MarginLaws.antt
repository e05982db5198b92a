-- Laws of the margins of many lengths: each length in its range, each margin from a summary's numbers, one after the other into a lent buffer
use mathlib.Core.Path.{◌≡◌, refl, sym, ap, ◌∙◌}
use mathlib.Core.List.{List, [], ◌∷◌, map}
use Prim.Native.Nat.{ℕ, ◌+◌, ◌*◌, ◌/◌, ◌%◌, ◌^◌, ◌≤◌, ◌<◌}
use native.Mathlib.Omega.{arith}
use native.Mathlib.Nat.{le_trans, div-le_self, mod-lt, mul-le-mul}
use native.Mathlib.Numerals.{add-one}
use lib.IntN.{ℤ}
use lib.ListN.{length, get_or, set, take, drop, length-take, length-drop, length-map}
use lib.Seq.{drop-cons, length-take-le, take-suc}
use borrow.Author.Tests.{le-ltb, ne_eqb}
use Rattle.std.proofs.lemmas.List.{map-append, take_all}
use Rattle.std.specs.Result.{result_unwrap_or}
use Rattle.std.specs.declared.result.Result.{Result}
use Rattle.std.specs.declared.result.Result.TheVariants.{Ok, Err}
use Rattle.scope.specs.Limits.{most_frame, most_length}
use Rattle.scope.specs.Numbers.{written}
use Rattle.scope.specs.Windows.{framed, windows_of}
use Rattle.scope.specs.Answers.{Fault.fine, Fault.fault, Answer.given, ◌or_else◌, frame_fault, length_fault}
use Rattle.scope.specs.Summary.{ticks_before, least_from, lengths_fault}
use Rattle.theory.specs.Answers.{length_legal, lengths_each}
use Rattle.theory.specs.Buffers.{written_none, written_more}
use Rattle.tables.specs.declared.answer.Refusal.{Refusal}
use Rattle.tables.specs.Told.{told_amount}
use Rattle.summaries.specs.Least.{most_ticks, from_answer}
use Rattle.summaries.proofs.LeastLaws.{ticks_small}

-- ---- the lengths, one after the other

module _ (l : List ℕ) (i : ℕ) (has : i < length l) where
  pub lengths_stop : {n p : ℕ} → fault n p ≡ length_fault (get_or l i 0) → lengths_fault (drop i l) ≡ fault n p
  unfolding lengths_fault
  lengths_stop e = rw (drop-cons l i 0 has, ← e)

  pub lengths_next : fine ≡ length_fault (get_or l i 0) → lengths_fault (drop i l) ≡ lengths_fault (drop (i + 1) l)
  unfolding lengths_fault
  lengths_next e = rw (drop-cons l i 0 has, ← e, add-one i)

lengths_none : (l : List ℕ) → length l ≤ 0 → lengths_fault l ≡ fine
unfolding lengths_fault
lengths_none [] h = refl
lengths_none (t ∷ l) h = absurd (omega arith)

pub lengths_end : (l : List ℕ) (i : ℕ) → length l ≤ i → lengths_fault (drop i l) ≡ fine
lengths_end l i h = lengths_none (drop i l) (omega (arith, length-drop i l))

pub ruleset each_length = (lengths_stop, lengths_next, lengths_end)

pub each_asked : (l : List ℕ) (i : ℕ) → fine ≡ lengths_fault l → i < length l → get_or l i 0 ≤ most_length
each_asked l i e h = length_legal (get_or l i 0) (lengths_each l (sym e) i h)

-- ---- the least supply of one length, which is in its range, in a frame that is

module _ (P : ℕ) (s : List ℕ) (t : ℕ) (p : 0 < P) (m : P ≤ most_frame) (asked : t ≤ most_length) where
  fits : (frame_fault (framed P) or_else length_fault t) ≡ fine
  unfolding frame_fault length_fault
  fits = rw (ne_eqb P 0 (omega arith), le-ltb most_frame P m, le-ltb most_length t asked)

  -- it is never refused
  pub supply_told : (r : Result ℕ Refusal) → told_amount r ≡ from_answer (framed P) s t → result_unwrap_or r 0 ≡ least_from P s t
  unfolding from_answer
  supply_told r e = go r (e ∙ rw fits)
    where
      go : (x : Result ℕ Refusal) → told_amount x ≡ given (least_from P s t) → result_unwrap_or x 0 ≡ least_from P s t
      go (Ok v) q = cc
      go (Err x) q = let z : ◌≡◌ {A = ℕ} 0 1 = cc in absurd (omega arith)

  -- a summary's numbers have 32 bits
  pub least_small : get_or s 0 0 < 2 ^ 32 → get_or s 2 0 < 2 ^ 32 → least_from P s t < 2 ^ 63
  unfolding least_from
  least_small whole count =
      let n : ℕ = 2 * get_or s 2 0 in
      let l : List ℕ = take n (drop 3 s) in
      let most : get_or s 0 0 ≤ 2 ^ 32 = omega arith in
      let frames : t / P * get_or s 0 0 ≤ most_length * 2 ^ 32 = mul-le-mul (le_trans (div-le_self t P) asked) most in
      let rest : t % P ≤ most_frame = omega (arith, mod-lt t p, m) in
      let short : length l < 2 ^ 33 = omega (arith, length-take n (drop 3 s)) in
      let ticks : ticks_before (windows_of l) (t % P) ≤ most_ticks = ticks_small l (t % P) short rest in
      omega arith

-- ---- one margin after the other, at the front of a lent buffer

module _ (f : ℕ → ℤ) (l : List ℕ) (d : List ℤ) where
  -- the buffer with the first i of them in it
  abbrev pub margins_to : ℕ → List ℤ
  margins_to i = written (map f (take i l)) d

  pub margins_more : (i : ℕ) (out : List ℤ) (z : ℤ) → i < length l → length l ≤ length d → out ≡ margins_to i → z ≡ f (get_or l i 0) →
      set out i z ≡ margins_to (i + 1)
  margins_more i out z h room e v =
      let m : List ℤ = map f (take i l) in
      let k : length m ≡ i = length-map (take i l) f ∙ length-take-le _ _ (omega arith) in
      let y : ℤ = f (get_or l i 0) in
      rw (e, v) (ap (λ (n : ℕ). set (written m d) n y) (sym k))
      ∙ written_more m d y (omega arith)
      ∙ ap (λ (j : List ℤ). written j d) (sym (map-append f (take i l) (get_or l i 0 ∷ [])))
      ∙ rw (add-one i, take-suc l i 0 h)

  pub margins_whole : (i : ℕ) → length l ≤ i → margins_to i ≡ written (map f l) d
  margins_whole i h = ap (λ (k : List ℕ). written (map f k) d) (take_all i l h)

pub ruleset front = (each_asked, written_none, margins_more, margins_whole)
