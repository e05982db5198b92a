-- A plan's bytes and the plan they read to: each determines the other
use Rattle.std.specs.Prelude.{◌≡◌, refl, ℕ, ◌+◌, ◌*◌, ◌/◌, ◌≤◌, ◌<◌}
use Rattle.std.proofs.Common.{sym, ap, ◌∙◌, arith, lt-ltb, le-ltb}
use Rattle.std.proofs.Math.Path.{subst}
use mathlib.Core.List.{List, [], ◌∷◌, ◌++◌, append_assoc, append-nil}
use Rattle.std.proofs.Math.ListN.{length, drop, length-append}
use Rattle.std.proofs.Math.Seq.{drop-length}
use Rattle.scope.specs.Limits.{most_number, most_windows, most_tasks}
use Rattle.scope.specs.Answers.{Fault, Fault.fine, Answer.given, Answer.refused, window_list_fault, task_list_fault}
use Rattle.scope.specs.Plan.{Plan, window_count_fault, task_count_fault, rest_fault, plan_of, number_bytes, numbers_bytes, counted_bytes, plan_bytes}
use Rattle.theory.specs.Answers.{window_list_legal, window_list_fine, task_list_legal, task_list_fine}
use Rattle.theory.specs.Seven.{UpTo, number_most, number_ahead, written_number}
use Rattle.theory.specs.Series.{numbers_most, numbers_ahead, drop_past, written_numbers}
use Rattle.theory.specs.Plan.{count_legal, count_fine, CountedAt, PlanAt, windows_next, tasks_next, FileOf, file_at, file_read, file_settings}

-- ---- plans that a file can hold

pub record Writable (p : Plan) : Type 0 where
  pub settings : UpTo most_number p.settings
  pub frame : p.frame ≤ most_number
  pub windows : UpTo most_number p.windows
  pub tasks : UpTo most_number p.tasks
  pub window_list : window_list_fault p.windows ≡ fine
  pub task_list : task_list_fault p.tasks ≡ fine

-- ---- the parts of a plan's bytes

-- after the settings
abbrev after_settings : Plan → List ℕ → List ℕ
after_settings p rest = number_bytes p.frame ++ (counted_bytes 2 p.windows ++ (counted_bytes 3 p.tasks ++ rest))

parts : (p : Plan) (rest : List ℕ) → plan_bytes p ++ rest ≡ numbers_bytes p.settings ++ after_settings p rest
unfolding plan_bytes
parts p rest =
    append_assoc (numbers_bytes p.settings ++ number_bytes p.frame ++ counted_bytes 2 p.windows) _ rest
    ∙ append_assoc (numbers_bytes p.settings ++ number_bytes p.frame) _ _
    ∙ append_assoc (numbers_bytes p.settings) _ _

pub plan_length : (p : Plan) → length (plan_bytes p) ≡
    length (numbers_bytes p.settings) + length (number_bytes p.frame)
    + length (number_bytes (length p.windows / 2)) + length (numbers_bytes p.windows)
    + length (number_bytes (length p.tasks / 3)) + length (numbers_bytes p.tasks)
unfolding plan_bytes
plan_length p =
    let counted : (k : ℕ) (l : List ℕ) → length (counted_bytes k l) ≡ length (number_bytes (length l / k)) + length (numbers_bytes l) =
    λ k l. length-append (number_bytes (length l / k)) (numbers_bytes l) in
    omega (
      arith,
      length-append (numbers_bytes p.settings ++ number_bytes p.frame ++ counted_bytes 2 p.windows) (counted_bytes 3 p.tasks),
      length-append (numbers_bytes p.settings ++ number_bytes p.frame) (counted_bytes 2 p.windows),
      length-append (numbers_bytes p.settings) (number_bytes p.frame),
      counted 2 p.windows,
      counted 3 p.tasks,
    )

-- ---- a count and its numbers, written where they stand and standing where they are written

module _ (k : ℕ) (check : ℕ → Fault) (bytes : List ℕ) (at : ℕ) (l : List ℕ) where
  written_counted : (rest : List ℕ) → UpTo most_number l → k * (length l / k) ≡ length l → length l / k ≤ most_number →
      check (length l / k) ≡ fine → drop at bytes ≡ counted_bytes k l ++ rest → CountedAt k check bytes at l (at + length (counted_bytes k l))
  written_counted rest u whole few legal h =
      let count = number_bytes (length l / k) in
      let e : drop at bytes ≡ count ++ (numbers_bytes l ++ rest) = h ∙ append_assoc count (numbers_bytes l) rest in
      let after : ℕ = at + length count in
      let z : after + length (numbers_bytes l) ≡ at + length (counted_bytes k l) = omega (arith, length-append count (numbers_bytes l)) in
      subst (CountedAt k check bytes at l) z (record {
        count = length l / k;
        after_count = after;
        counted = written_number bytes _ at (length l / k) few e;
        legal = legal;
        numbers = rw whole (written_numbers bytes rest l after u (drop_past bytes count _ at e));
      })

  counted_ahead : UpTo 255 bytes → (end : ℕ) (q : CountedAt k check bytes at l end) → length l / k ≡ q.count →
      drop at bytes ≡ counted_bytes k l ++ drop end bytes
  counted_ahead u end q e =
      rw (
        e,
        append_assoc,
        ← numbers_ahead bytes q.after_count u (k * q.count) l end q.numbers,
      )
      (number_ahead bytes at q.count q.after_count q.counted u)

-- ---- a plan that is written stands where its bytes do

module _ (p : Plan) (w : Writable p) where
  written_plan_lem : (bytes rest : List ℕ) (at : ℕ) → drop at bytes ≡ after_settings p rest →
      PlanAt bytes at p (at + length (number_bytes p.frame) + length (counted_bytes 2 p.windows) + length (counted_bytes 3 p.tasks))
  written_plan_lem bytes rest at h₀ =
      let l = window_list_legal p.windows w.window_list in
      let k = task_list_legal p.tasks w.task_list in
      let frame = number_bytes p.frame in
      let windows = counted_bytes 2 p.windows in
      let tasks = counted_bytes 3 p.tasks in
      let a₁ : ℕ = at + length frame in
      let h₁ : drop a₁ bytes ≡ windows ++ (tasks ++ rest) = drop_past bytes frame _ at h₀ in
      let a₂ : ℕ = a₁ + length windows in
      let h₂ : drop a₂ bytes ≡ tasks ++ rest = drop_past bytes windows _ a₁ h₁ in
      record {
        after_frame = a₁;
        after_windows = a₂;
        frame = written_number bytes _ at p.frame w.frame h₀;
        windows = written_counted 2 window_count_fault bytes a₁ p.windows _ w.windows (omega (arith, l.0)) (omega (arith, l.2))
            (count_fine 1 most_windows 1 (length p.windows / 2) (omega (arith, l.0, l.1)) (omega (arith, l.2))) h₁;
        tasks = written_counted 3 task_count_fault bytes a₂ p.tasks _ w.tasks (omega (arith, k.0)) (omega (arith, k.1))
            (count_fine 0 most_tasks 4 (length p.tasks / 3) (omega arith) (omega (arith, k.1))) h₂;
      }

  -- after as many settings as it has
  abbrev form : ℕ
  form = length p.settings

  pub written_file : (bytes rest : List ℕ) → bytes ≡ plan_bytes p ++ rest → FileOf form bytes p (length (plan_bytes p))
  unfolding plan_bytes
  written_file bytes rest h =
      let settings = numbers_bytes p.settings in
      let frame = number_bytes p.frame in
      let windows = counted_bytes 2 p.windows in
      let tasks = counted_bytes 3 p.tasks in
      let h₀ : drop 0 bytes ≡ settings ++ after_settings p rest = h ∙ parts p rest in
      let z : 0 + length settings + length frame + length windows + length tasks ≡ length (plan_bytes p) =
      omega (arith, length-append (settings ++ frame ++ windows) tasks, length-append (settings ++ frame) windows, length-append settings frame) in
      subst (FileOf form bytes p) z (record {
        after_settings = 0 + length settings;
        settings = written_numbers bytes _ p.settings 0 w.settings h₀;
        plan = written_plan_lem bytes rest (0 + length settings) (drop_past bytes settings _ 0 h₀);
      })

  -- it reads back
  pub round_trip : plan_of form (plan_bytes p) ≡ given p
  unfolding rest_fault
  round_trip =
      let bytes = plan_bytes p in
      rw (le-ltb (length bytes) (length bytes) (omega arith)) at (file_at form bytes p _ (written_file bytes [] (sym (append-nil bytes))))

  -- with bytes left over, the first of them is named
  pub left_over : (b : ℕ) (rest : List ℕ) → plan_of form (plan_bytes p ++ (b ∷ rest)) ≡ refused 9 (length (plan_bytes p))
  unfolding rest_fault
  left_over b rest =
      let front = plan_bytes p in
      let all = front ++ (b ∷ rest) in
      let more : length front < length all = omega (arith, length-append front (b ∷ rest)) in
      rw (lt-ltb (length front) (length all) more) at (file_at form all p _ (written_file all (b ∷ rest) refl))

-- ---- bytes in which a plan stands are that plan's bytes

plan_ahead : (bytes : List ℕ) (at : ℕ) (p : Plan) (end : ℕ) → PlanAt bytes at p end → UpTo 255 bytes → drop at bytes ≡ after_settings p (drop end bytes)
plan_ahead bytes at p end q u =
    let m : length p.windows / 2 ≡ q.windows.count = omega (arith, (windows_next bytes at p end q).0) in
    let n : length p.tasks / 3 ≡ q.tasks.count = omega (arith, (tasks_next bytes at p end q).0) in
    rw (
      ← counted_ahead 3 task_count_fault bytes q.after_windows p.tasks u end q.tasks n,
      ← counted_ahead 2 window_count_fault bytes q.after_frame p.windows u q.after_windows q.windows m,
    )
    (number_ahead bytes at p.frame q.after_frame q.frame u)

-- whatever the form of the file
module _ (k : ℕ) (bytes : List ℕ) (p : Plan) (e : plan_of k bytes ≡ given p) where
  -- a plan that is given has lists of the right shape, and numbers that a file can hold
  pub read_writable : Writable p
  read_writable =
      let file = file_read k bytes p e in
      let end = length bytes in
      let at = file.after_settings in
      let q = file.plan in
      let windows = q.windows in
      let tasks = q.tasks in
      let m = count_legal 1 most_windows 1 windows.count windows.legal in
      let n = count_legal 0 most_tasks 4 tasks.count tasks.legal in
      let w = (windows_next bytes at p end q).0 in
      let t = (tasks_next bytes at p end q).0 in
      record {
        settings = numbers_most bytes 0 k p.settings at file.settings;
        frame = number_most bytes at p.frame q.after_frame q.frame;
        windows = numbers_most bytes windows.after_count (2 * windows.count) p.windows q.after_windows windows.numbers;
        tasks = numbers_most bytes tasks.after_count (3 * tasks.count) p.tasks end tasks.numbers;
        window_list = window_list_fine p.windows (omega arith) (omega (arith, m.0)) (omega (arith, m.1));
        task_list = task_list_fine p.tasks (omega arith) (omega (arith, n.1));
      }

  -- and as many settings as the form has
  pub read_settings : length p.settings ≡ k
  read_settings = file_settings k bytes p (length bytes) (file_read k bytes p e)

  -- no other bytes read to it than those that are written
  pub only_bytes : UpTo 255 bytes → bytes ≡ plan_bytes p
  only_bytes u =
      let file = file_read k bytes p e in
      numbers_ahead bytes 0 u k p.settings file.after_settings file.settings
      ∙ ap (λ (r : List ℕ). numbers_bytes p.settings ++ r) (plan_ahead bytes file.after_settings p (length bytes) file.plan u)
      ∙ sym (parts p (drop (length bytes) bytes))
      ∙ ap (λ (r : List ℕ). plan_bytes p ++ r) (drop-length bytes) ∙ append-nil (plan_bytes p)
