-- What a host is told: the code and the numbers of every answer of `scope`. Numbers that a code has no use for are 0
use Rattle.std.specs.Prelude.{ℕ, suc, ℤ, pos, negsuc}
use Rattle.std.proofs.Math.Option.{Option, none, some}
use Rattle.scope.specs.Verdict.{Verdict, Verdict.meets, Verdict.miss}
use Rattle.scope.specs.Bound.{Bound, Bound.bound, Bound.no_bound}
use Rattle.scope.specs.Run as Runs
use Rattle.scope.specs.Run.{Outcome, Ran}
use Rattle.scope.specs.Trace.{Completion}
use Rattle.scope.specs.Replay.{Replayed, Replayed.same, Replayed.differs, Replayed.missed}
use Rattle.scope.specs.Summary.{Edited}
use Rattle.scope.specs.Answers as Answers
use Rattle.scope.specs.Answers.{Answer.given, Answer.refused, Delay}
use Rattle.host.specs.declared.answer.Answer.{Answer}

-- a refusal: its number and its place. Its code is no value's
abbrev pub refusal : ℕ → ℕ → Answer
refusal number place = record { code = 0; a = number; b = place; c = 0; d = 0 }

-- an answer, given how a value is told
abbrev pub told : {A : Type 0} → (A → Answer) → Answers.Answer A → Answer
told value (given x) = value x
told value (refused number place) = refusal number place

-- ---- values

abbrev pub amount : ℕ → Answer
amount n = record { code = 1; a = n; b = 0; c = 0; d = 0 }

abbrev pub delay : Delay → Answer
delay x = record { code = 2; a = x.delay; b = x.A; c = 0; d = 0 }

-- a margin below 0 has its own code, and how far below 0 it is
abbrev pub signed : ℤ → Answer
signed (pos n) = record { code = 3; a = n; b = 0; c = 0; d = 0 }
signed (negsuc n) = record { code = 4; a = suc n; b = 0; c = 0; d = 0 }

abbrev pub verdict : Verdict → Answer
verdict (meets h) = record { code = 5; a = h; b = 0; c = 0; d = 0 }
verdict (miss t s n p) = record { code = 6; a = t; b = s; c = n; d = p }

abbrev pub response : Bound → Answer
response (bound t) = record { code = 7; a = t; b = 0; c = 0; d = 0 }
response no_bound = record { code = 8; a = 0; b = 0; c = 0; d = 0 }

abbrev pub ended : Outcome → ℕ → Answer
ended Runs.met n = record { code = 9; a = n; b = 0; c = 0; d = 0 }
ended (Runs.missed k j) n = record { code = 10; a = k; b = j; c = n; d = 0 }

abbrev pub ran : Ran → Answer
ran r = ended r.outcome r.backlog

-- a difference, by the sides that have not ended; there is one at least
abbrev pub difference : Option Completion → Option Completion → Answer
difference (some c) (some m) = record { code = 12; a = c.instant; b = c.task; c = m.instant; d = m.task }
difference none (some m) = record { code = 13; a = 0; b = 0; c = m.instant; d = m.task }
difference (some c) none = record { code = 14; a = c.instant; b = c.task; c = 0; d = 0 }
difference none none = record { code = 16; a = 0; b = 0; c = 0; d = 0 }

abbrev pub replay : Replayed → Answer
replay same = record { code = 11; a = 0; b = 0; c = 0; d = 0 }
replay (differs c m) = difference c m
replay (missed k j) = record { code = 15; a = k; b = j; c = 0; d = 0 }

abbrev pub edited : Edited → Answer
edited x = record { code = 17; a = x.windows; b = x.numbers; c = 0; d = 0 }

-- ---- answers

abbrev pub c_amount : Answers.Answer ℕ → Answer
c_amount = told amount

abbrev pub c_delay : Answers.Answer Delay → Answer
c_delay = told delay

abbrev pub c_margin : Answers.Answer ℤ → Answer
c_margin = told signed

abbrev pub c_verdict : Answers.Answer Verdict → Answer
c_verdict = told verdict

abbrev pub c_bound : Answers.Answer Bound → Answer
c_bound = told response

abbrev pub c_ran : Answers.Answer Ran → Answer
c_ran = told ran

abbrev pub c_replay : Answers.Answer Replayed → Answer
c_replay = told replay

abbrev pub c_edited : Answers.Answer Edited → Answer
c_edited = told edited
