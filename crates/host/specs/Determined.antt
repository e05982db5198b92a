-- Two answers of which a host is told the same are equal, whatever their numbers: what it is told can be undone
use Rattle.std.specs.Prelude.{ℕ, pred, ◌≡◌, refl, cond, ◌||◌, eqb, ℤ, pos, negsuc}
use Rattle.std.proofs.Math.Option.{Option, none, some}
use Rattle.scope.specs.Verdict.{Verdict, Verdict.meets, Verdict.miss}
use Rattle.scope.specs.Bound.{Bound, Bound.bound, Bound.no_bound}
use Rattle.scope.specs.Run as Runs
use Rattle.scope.specs.Run.{Outcome, Ran}
use Rattle.scope.specs.Trace.{Completion, completion}
use Rattle.scope.specs.Replay.{Replayed, Replayed.same, Replayed.differs, Replayed.missed}
use Rattle.scope.specs.Summary.{Edited}
use Rattle.scope.specs.Answers as Answers
use Rattle.scope.specs.Answers.{Answer.given, Answer.refused, Delay}
use Rattle.tables.specs.Determined.{undone}
use Rattle.host.specs.declared.answer.Answer.{Answer}
use Rattle.host.specs.Told.{told, amount, delay, signed, verdict, response, ended, ran, c_amount, c_delay, c_margin, c_verdict, c_bound, c_ran}
use Rattle.host.specs.Told.{difference, replay, edited, c_replay, c_edited}

-- told by its code: code 0 is a refusal
abbrev untold : {A : Type 0} → (Answer → A) → Answer → Answers.Answer A
untold value r = cond (eqb r.code 0) (refused r.a r.b) (given (value r))

-- a way of telling values that can be undone, and never has code 0, tells all answers apart
pub told_determined : {A : Type 0} (f : A → Answer) (g : Answer → A) →
    ((x : A) → untold g (f x) ≡ given x) → (x y : Answers.Answer A) → told f x ≡ told f y → x ≡ y
told_determined f g inverse = undone (told f) (untold g) back
  where
    back : (x : Answers.Answer _) → untold g (told f x) ≡ x
    back (given x) = inverse x
    back (refused n p) = refl

pub amounts_determined : (x y : Answers.Answer ℕ) → c_amount x ≡ c_amount y → x ≡ y
amounts_determined = told_determined amount (λ r. r.a) (λ x. refl)

pub delays_determined : (x y : Answers.Answer Delay) → c_delay x ≡ c_delay y → x ≡ y
delays_determined = told_determined delay (λ r. record { delay = r.a; A = r.b }) (λ x. refl)

abbrev margins : Answer → ℤ
margins r = cond (eqb r.code 3) (pos r.a) (negsuc (pred r.a))

pub margins_determined : (x y : Answers.Answer ℤ) → c_margin x ≡ c_margin y → x ≡ y
margins_determined = told_determined signed margins back
  where
    back : (z : ℤ) → untold margins (signed z) ≡ given z
    back (pos n) = refl
    back (negsuc n) = refl

abbrev verdicts : Answer → Verdict
verdicts r = cond (eqb r.code 5) (meets r.a) (miss r.a r.b r.c r.d)

pub verdicts_determined : (x y : Answers.Answer Verdict) → c_verdict x ≡ c_verdict y → x ≡ y
verdicts_determined = told_determined verdict verdicts back
  where
    back : (v : Verdict) → untold verdicts (verdict v) ≡ given v
    back (meets h) = refl
    back (miss t s n p) = refl

abbrev bounds : Answer → Bound
bounds r = cond (eqb r.code 7) (bound r.a) no_bound

pub bounds_determined : (x y : Answers.Answer Bound) → c_bound x ≡ c_bound y → x ≡ y
bounds_determined = told_determined response bounds back
  where
    back : (b : Bound) → untold bounds (response b) ≡ given b
    back (bound t) = refl
    back no_bound = refl

abbrev runs : Answer → Ran
runs r = cond (eqb r.code 9) (record { outcome = Runs.met; backlog = r.a }) (record { outcome = Runs.missed r.a r.b; backlog = r.c })

pub runs_determined : (x y : Answers.Answer Ran) → c_ran x ≡ c_ran y → x ≡ y
runs_determined = told_determined ran runs (λ r. back r.outcome r.backlog)
  where
    back : (o : Outcome) (n : ℕ) → untold runs (ended o n) ≡ given (record { outcome = o; backlog = n })
    back Runs.met n = refl
    back (Runs.missed k j) n = refl

-- the trace's side, and the machine's
abbrev trace_side : Answer → Option Completion
trace_side r = cond (eqb r.code 12 || eqb r.code 14) (some (completion r.a r.b)) none

abbrev machine_side : Answer → Option Completion
machine_side r = cond (eqb r.code 12 || eqb r.code 13) (some (completion r.c r.d)) none

abbrev replays : Answer → Replayed
replays r = cond (eqb r.code 11) same (cond (eqb r.code 15) (missed r.a r.b) (differs (trace_side r) (machine_side r)))

pub replays_determined : (x y : Answers.Answer Replayed) → c_replay x ≡ c_replay y → x ≡ y
replays_determined = told_determined replay replays back
  where
    sides : (c m : Option Completion) → untold replays (difference c m) ≡ given (differs c m)
    sides (some c) (some m) = refl
    sides none (some m) = refl
    sides (some c) none = refl
    sides none none = refl

    back : (r : Replayed) → untold replays (replay r) ≡ given r
    back same = refl
    back (differs c m) = sides c m
    back (missed k j) = refl

pub edits_determined : (x y : Answers.Answer Edited) → c_edited x ≡ c_edited y → x ≡ y
edits_determined = told_determined edited (λ r. record { windows = r.a; numbers = r.b }) (λ x. refl)
