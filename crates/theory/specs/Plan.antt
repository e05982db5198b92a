-- A plan file that is read: what stands where in it, how long it is at most, and how many of its bytes decide the answer. All of it over how many settings
-- stand before P
use Rattle.std.specs.Prelude.{◌≡◌, refl, List, ℕ, ◌+◌, ◌*◌, ◌≤◌, ◌<◌, ltb, length, take}
use Rattle.std.proofs.Common.{ap, arith}
use Rattle.std.proofs.Math.Path.{subst}
use Rattle.std.proofs.Math.Nat.{mul-le-mul_left}
use Rattle.std.proofs.Math.Decide.{dec_lt}
use Rattle.std.proofs.Math.ListN.{length-take}
use borrow.Author.Tests.{ltb-false, lt-ltb, le-ltb}
use Rattle.scope.specs.Limits.{most_windows, most_tasks}
use Rattle.scope.specs.Answers.{Fault, Fault.fine, Fault.fault, Answer, Answer.given, Answer.refused, unless}
use Rattle.scope.specs.Plan.{Read, Read.read, Read.bad, read_number, read_numbers, Plan, or_nine, past, and_then, count_fault}
use Rattle.scope.specs.Plan.{window_count_fault, task_count_fault, rest_fault, Listed, as_listed, counted_from, lists_from, plan_from, plan_of}
use Rattle.scope.specs.Shared.{plan_answer}
use Rattle.theory.specs.Numbers.{or_neither}
use Rattle.theory.specs.Answers.{fault_if_fine, unless_given}
use Rattle.theory.specs.Seven.{number_next, number_small, first_number}
use Rattle.theory.specs.Series.{numbers_next, first_numbers}

-- k settings and P have at most five bytes each, the two counts have one each, and every number of a window or a task has at most five: 1127 without settings
abbrev pub most_plan_bytes : ℕ → ℕ
most_plan_bytes k = 5 * (k + 1 + 2 * most_windows + 3 * most_tasks) + 2

-- ---- the checks of a file: of a count and of the end

module _ (least most number n : ℕ) where
  pub count_legal : count_fault least most number n ≡ fine → (least ≤ n) × (n ≤ most)
  count_legal e =
      let l = or_neither (ltb n least) (ltb most n) (fault_if_fine _ number 0 e) in
      (ltb-false n least l.0, ltb-false most n l.1)

  pub count_fine : least ≤ n → n ≤ most → count_fault least most number n ≡ fine
  count_fine l m = rw (le-ltb n least l, le-ltb most n m)

no_rest : (bytes : List ℕ) (end : ℕ) → rest_fault bytes end ≡ fine → length bytes ≤ end
unfolding rest_fault
no_rest bytes end e = ltb-false end (length bytes) (fault_if_fine _ 9 end e)

-- ---- what is given only where it was read

refused_not_given : {A : Type 0} {a : A} {n p : ℕ} → refused n p ≡ given a → ⊥
refused_not_given e = let z : ◌≡◌ {A = ℕ} 0 1 = cc in omega arith

pub or_nine_given : {A B R : Type 0} (x : Read A) (f : A → ℕ → Answer B) (b : B) → or_nine x f ≡ given b →
    ((a : A) (next : ℕ) → x ≡ read a next → f a next ≡ given b → R) → R
or_nine_given (read a next) f b e go = go a next refl e
or_nine_given (bad o) f b e go = absurd (refused_not_given e)

past_given : {A R : Type 0} (x : Fault) (a : Answer A) (v : A) → past x a ≡ given v → (x ≡ fine → a ≡ given v → R) → R
past_given fine a v e go = go refl e
past_given (fault n p) a v e go = absurd (refused_not_given e)

and_then_given : {A B R : Type 0} (x : Answer A) (f : A → Answer B) (b : B) → and_then x f ≡ given b →
    ((a : A) → x ≡ given a → f a ≡ given b → R) → R
and_then_given (given a) f b e go = go a refl e
and_then_given (refused n p) f b e go = absurd (refused_not_given e)

-- ---- a count that stands at an offset, and up to end k numbers for each

pub record CountedAt (k : ℕ) (check : ℕ → Fault) (bytes : List ℕ) (at : ℕ) (l : List ℕ) (end : ℕ) : Type 0 where
  pub count : ℕ
  pub after_count : ℕ
  pub counted : read_number bytes at ≡ read count after_count
  pub legal : check count ≡ fine
  pub numbers : read_numbers bytes (k * count) after_count ≡ read l end

module _ (k : ℕ) (check : ℕ → Fault) (bytes : List ℕ) (at : ℕ) where
  counted_at : (l : List ℕ) (end : ℕ) → CountedAt k check bytes at l end → counted_from k check bytes at ≡ as_listed l end
  unfolding counted_from
  counted_at l end q = rw (q.counted, q.legal, q.numbers)

  counted_read : (x : Listed) → counted_from k check bytes at ≡ given x → CountedAt k check bytes at x.numbers x.next
  unfolding counted_from
  counted_read x given-x =
      or_nine_given (read_number bytes at) _ x given-x (λ n next counted r₁.
      past_given (check n) _ x r₁ (λ legal r₂.
      or_nine_given (read_numbers bytes (k * n) next) _ x r₂ (λ l end numbers r₃.
      let q : CountedAt k check bytes at l end = record { count = n; after_count = next; counted = counted; legal = legal; numbers = numbers } in
      let z : record { numbers = l; next = end } ≡ x = cc in
      subst (λ (y : Listed). CountedAt k check bytes at y.numbers y.next) z q)))

-- a count below 128 has one byte
module _ (k least most number : ℕ) (bytes : List ℕ) (at : ℕ) (l : List ℕ) (end : ℕ)
    (q : CountedAt k (count_fault least most number) bytes at l end) where
  pub counted_next : most < 128 → (length l ≡ k * q.count) × (end ≤ at + 1 + 5 * (k * q.count)) × (end ≤ length bytes)
  counted_next small =
      let m = (count_legal least most number q.count q.legal).1 in
      let s = numbers_next bytes q.after_count (k * q.count) l end q.numbers in
      let one = number_small bytes at q.count q.after_count q.counted (omega arith) in
      (s.0, omega (arith, s.2, one), s.3 (number_next bytes at q.count q.after_count q.counted).2)

-- ---- a plan that stands at an offset, after its settings, up to end

pub record PlanAt (bytes : List ℕ) (at : ℕ) (p : Plan) (end : ℕ) : Type 0 where
  pub after_frame : ℕ
  pub after_windows : ℕ
  pub frame : read_number bytes at ≡ read p.frame after_frame
  pub windows : CountedAt 2 window_count_fault bytes after_frame p.windows after_windows
  pub tasks : CountedAt 3 task_count_fault bytes after_windows p.tasks end

module _ (bytes : List ℕ) (at : ℕ) (p : Plan) (end : ℕ) (q : PlanAt bytes at p end) where
  pub windows_next : (length p.windows ≡ 2 * q.windows.count)
      × (q.after_windows ≤ q.after_frame + 1 + 5 * (2 * q.windows.count)) × (q.after_windows ≤ length bytes)
  windows_next = counted_next 2 1 most_windows 1 bytes q.after_frame p.windows q.after_windows q.windows (omega arith)

  pub tasks_next : (length p.tasks ≡ 3 * q.tasks.count)
      × (end ≤ q.after_windows + 1 + 5 * (3 * q.tasks.count)) × (end ≤ length bytes)
  tasks_next = counted_next 3 0 most_tasks 4 bytes q.after_windows p.tasks end q.tasks (omega arith)

  -- P takes 5 bytes at most, the windows 641 and the tasks 481
  pub plan_end : end ≤ at + most_plan_bytes 0
  plan_end =
      omega (
        arith,
        (number_next bytes at p.frame q.after_frame q.frame).1,
        (count_legal 1 most_windows 1 q.windows.count q.windows.legal).1,
        windows_next.1,
        (count_legal 0 most_tasks 4 q.tasks.count q.tasks.legal).1,
        tasks_next.1,
      )

  -- it is read there, unless bytes are left over
  pub plan_at_lem : plan_from bytes p.settings at ≡ unless (rest_fault bytes end) p
  unfolding plan_from lists_from
  plan_at_lem =
      rw (
        q.frame,
        counted_at 2 window_count_fault bytes q.after_frame p.windows q.after_windows q.windows,
        counted_at 3 task_count_fault bytes q.after_windows p.tasks end q.tasks,
      )

-- a plan is given only where it stands, up to the end of the file
plan_read : (bytes settings : List ℕ) (at : ℕ) (p : Plan) → plan_from bytes settings at ≡ given p → (settings ≡ p.settings) × PlanAt bytes at p (length bytes)
unfolding plan_from lists_from
plan_read bytes settings at p given-p =
    or_nine_given (read_number bytes at) _ p given-p (λ P after_frame frame r₁.
    and_then_given (counted_from 2 window_count_fault bytes after_frame) _ p r₁ (λ ws windows r₂.
    and_then_given (counted_from 3 task_count_fault bytes ws.next) _ p r₂ (λ ts tasks r₃.
    let v : Plan = record { settings = settings; frame = P; windows = ws.numbers; tasks = ts.numbers } in
    let r = unless_given (rest_fault bytes ts.next) v p r₃ in
    let q : PlanAt bytes at v ts.next =
    record {
      after_frame = after_frame;
      after_windows = ws.next;
      frame = frame;
      windows = counted_read 2 window_count_fault bytes after_frame ws windows;
      tasks = counted_read 3 task_count_fault bytes ws.next ts tasks;
    } in
    let z : ts.next ≡ length bytes = omega (arith, no_rest bytes ts.next r.0, (tasks_next bytes at v ts.next q).2) in
    (ap (λ (u : Plan). u.settings) r.1, subst (PlanAt bytes at p) z (subst (λ (u : Plan). PlanAt bytes at u ts.next) r.1 q)))))

-- ---- a file of k settings and a plan, up to end

pub record FileOf (k : ℕ) (bytes : List ℕ) (p : Plan) (end : ℕ) : Type 0 where
  pub after_settings : ℕ
  pub settings : read_numbers bytes k 0 ≡ read p.settings after_settings
  pub plan : PlanAt bytes after_settings p end

module _ (k : ℕ) (bytes : List ℕ) (p : Plan) where
  -- it is read, unless bytes are left over
  pub file_at : (end : ℕ) → FileOf k bytes p end → plan_of k bytes ≡ unless (rest_fault bytes end) p
  unfolding plan_of
  file_at end q = rw q.settings (plan_at_lem bytes q.after_settings p end q.plan)

  -- a plan is given only by such a file
  pub file_read : plan_of k bytes ≡ given p → FileOf k bytes p (length bytes)
  unfolding plan_of
  file_read e =
      or_nine_given (read_numbers bytes k 0) _ p e (λ settings after read_settings r.
      let q = plan_read bytes settings after p r in
      record { after_settings = after; settings = rw (← q.0) read_settings; plan = q.1 })

  -- with as many settings as its form has
  pub file_settings : (end : ℕ) → FileOf k bytes p end → (length p.settings ≡ k)
  file_settings end q = (numbers_next bytes 0 k p.settings q.after_settings q.settings).0

  pub longest_plan : plan_of k bytes ≡ given p → length bytes ≤ most_plan_bytes k
  longest_plan e =
      let q = file_read e in
      omega (
        arith,
        (numbers_next bytes 0 k p.settings q.after_settings q.settings).2,
        plan_end bytes q.after_settings p (length bytes) q.plan,
      )

-- ---- the first k bytes, where these are more than a plan can have

or_nine_same : {A B : Type 0} (x : Read A) (f g : A → ℕ → Answer B) → ((a : A) (next : ℕ) → x ≡ read a next → f a next ≡ g a next) →
    or_nine x f ≡ or_nine x g
or_nine_same (read a next) f g h = h a next refl
or_nine_same (bad o) f g h = refl

past_same : {A : Type 0} (x : Fault) (a b : Answer A) → (x ≡ fine → a ≡ b) → past x a ≡ past x b
past_same fine a b h = h refl
past_same (fault n p) a b h = refl

and_then_same : {A B : Type 0} (x : Answer A) (f g : A → Answer B) → ((a : A) → x ≡ given a → f a ≡ g a) → and_then x f ≡ and_then x g
and_then_same (given a) f g h = h a refl
and_then_same (refused n p) f g h = refl

module _ (bytes : List ℕ) (k : ℕ) where
  first_rest : (end : ℕ) → end < k → rest_fault (take k bytes) end ≡ rest_fault bytes end
  unfolding rest_fault
  first_rest end h =
      let s = length-take k bytes in
      elim (dec_lt end (length bytes)) [
        | yes l ↦ rw (lt-ltb end (length bytes) l, lt-ltb end (length (take k bytes)) (omega arith))
        | no l ↦ rw (le-ltb end (length bytes) (omega arith), le-ltb end (length (take k bytes)) (omega arith))
      ]

  first_counted : (each least most number at : ℕ) → most < 128 → at + 5 ≤ k → at + 1 + 5 * (each * most) ≤ k →
      counted_from each (count_fault least most number) (take k bytes) at ≡ counted_from each (count_fault least most number) bytes at
  unfolding counted_from
  first_counted each least most number at small h room =
      rw (first_number bytes at k h) (or_nine_same (read_number bytes at) _ _ (λ n next e.
      past_same (count_fault least most number n) _ _ (λ f.
      let c = (count_legal least most number n f).1 in
      let s = number_small bytes at n next e (omega arith) in
      let m : each * n ≤ each * most = mul-le-mul_left each c in
      rw (first_numbers bytes next k (each * n) (omega arith)))))

  first_plan : (settings : List ℕ) (at : ℕ) → at + most_plan_bytes 0 < k → plan_from (take k bytes) settings at ≡ plan_from bytes settings at
  unfolding plan_from lists_from
  first_plan settings at long =
      rw (first_number bytes at k (omega arith)) (or_nine_same (read_number bytes at) _ _ (λ P next e.
      let f = (number_next bytes at P next e).1 in
      rw (first_counted 2 1 most_windows 1 next (omega arith) (omega arith) (omega arith))
      (and_then_same (counted_from 2 window_count_fault bytes next) _ _ (λ ws g.
      let w = counted_read 2 window_count_fault bytes next ws g in
      let m = (count_legal 1 most_windows 1 w.count w.legal).1 in
      let u = (counted_next 2 1 most_windows 1 bytes next ws.numbers ws.next w (omega arith)).1 in
      rw (first_counted 3 0 most_tasks 4 ws.next (omega arith) (omega arith) (omega arith))
      (and_then_same (counted_from 3 task_count_fault bytes ws.next) _ _ (λ ts i.
      let t = counted_read 3 task_count_fault bytes ws.next ts i in
      let n = (count_legal 0 most_tasks 4 t.count t.legal).1 in
      let v = (counted_next 3 0 most_tasks 4 bytes ws.next ts.numbers ts.next t (omega arith)).1 in
      rw (first_rest ts.next (omega arith))))))))

  -- they decide what the file reads to, so a bounded read of a file is exact
  module _ (n : ℕ) (long : most_plan_bytes n < k) where
    pub first_bytes : plan_of n (take k bytes) ≡ plan_of n bytes
    unfolding plan_of
    first_bytes =
        rw (first_numbers bytes 0 k n (omega arith)) (or_nine_same (read_numbers bytes n 0) _ _ (λ settings next e.
        first_plan settings next (omega (arith, (numbers_next bytes 0 n settings next e).2))))

    pub first_answer : plan_answer n (take k bytes) ≡ plan_answer n bytes
    unfolding plan_answer
    first_answer = rw first_bytes
