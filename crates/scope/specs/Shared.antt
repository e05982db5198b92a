-- Document 02, requests 4, 5 and 7: a window table that teams share, in threes of start, end and owner, none shorter than the board allows, of which the board
-- may lose the first ticks; and what each entry answers the owner that is asked for.
use Rattle.std.specs.Prelude.{ℕ, ◌+◌, ◌-◌, Bool, not, cond, ◌&&◌, ◌||◌, List, [], ◌∷◌, ltb, eqb, ℤ, length, get_or}
use Rattle.std.proofs.Math.Option.{Option}
use Rattle.scope.specs.Numbers.{first, pieces, written}
use Rattle.scope.specs.Limits.{teams}
use Rattle.scope.specs.Windows.{Board, Window, window, windows_of, window_fits}
use Rattle.scope.specs.Verdict.{Verdict}
use Rattle.scope.specs.Bound.{Bound}
use Rattle.scope.specs.Run.{Ran}
use Rattle.scope.specs.Answers.{Fault, Fault.fine, Fault.fault, Answer, Answer.refused, fault_if, fault_at, ◌or_else◌, unless, unless_kept, list_fault, frame_fault, shortest_fault, rule_fault, room_fault}
use Rattle.scope.specs.Answers.{Delay}
use Rattle.scope.specs.Answers.{supplied_answer, least_supply_answer, critical_answer, critical_out, delay_answer, outage_answer}
use Rattle.scope.specs.Answers.{margin_answer, verdict_answer, bound_answer, run_answer, run_out}
use Rattle.scope.specs.Plan.{or_nine, and_then, Plan, plan_of}
use Rattle.scope.specs.Trace.{Record, timed, trace_of}
use Rattle.scope.specs.Replay.{Replayed, records_answer}

-- ---- windows with their owners

pub record Owned : Type 0 where
  pub window : Window
  pub owner : ℕ

abbrev pub owned : ℕ → ℕ → ℕ → Owned
owned s e o = record { window = window s e; owner = o }

-- those of a list of numbers: start, end, owner, start, end, owner, ..
abbrev pub owned_of : List ℕ → List Owned
owned_of = pieces 3 owned

abbrev pub owned_at : List Owned → ℕ → Owned
owned_at ws i = get_or ws i (owned 0 0 0)

-- the windows of one owner, as a list of numbers: start, end, start, end, ..
unfoldable pub windows_for : ℕ → List Owned → List ℕ
windows_for o [] = []
windows_for o (w ∷ ws) = cond (eqb w.owner o) (w.window.start ∷ w.window.end ∷ windows_for o ws) (windows_for o ws)

-- those of the owner that is asked for
abbrev pub own : Board → List ℕ → List ℕ
own b numbers = windows_for b.owner (owned_of numbers)

-- what is left of windows of which the first q ticks are lost, as a list of numbers in pairs: each start moved by q, and windows no longer than q left out
unfoldable pub left_of : ℕ → List Window → List ℕ
left_of q [] = []
left_of q (w ∷ ws) = cond (ltb q (w.end - w.start)) ((q + w.start) ∷ w.end ∷ left_of q ws) (left_of q ws)

-- what the board leaves of the windows of the owner that is asked for
abbrev pub own_left : Board → List ℕ → List ℕ
own_left b numbers = left_of b.lost (windows_of (own b numbers))

-- a list of pairs, all read as owner o's
unfoldable pub as_owned : ℕ → List ℕ → List ℕ
as_owned o [] = []
as_owned o (s ∷ []) = s ∷ []
as_owned o (s ∷ e ∷ rest) = s ∷ e ∷ o ∷ as_owned o rest

-- ---- checks, of the whole list. The number of owners is a parameter

-- a window starts after the end of the previous one, or touches it and is another owner's
unfoldable pub follows : Owned → Owned → Bool
follows v w =
    ltb v.window.end w.window.start || (eqb v.window.end w.window.start && not (eqb v.owner w.owner))

-- start < end ≤ P, an owner that exists, and the previous window
unfoldable pub owned_legal : ℕ → Board → List Owned → ℕ → Bool
owned_legal owners b ws i =
    window_fits b (owned_at ws i).window && ltb (owned_at ws i).owner owners && (eqb i 0 || follows (owned_at ws (i - 1)) (owned_at ws i))

-- the lowest index of a window that breaks its rule
unfoldable pub bad_owned : ℕ → Board → List Owned → Option ℕ
bad_owned owners b ws = first (λ i. not (owned_legal owners b ws i)) (length ws)

-- 1, of threes
unfoldable pub owned_list_fault : List ℕ → Fault
owned_list_fault ws = list_fault 3 ws

-- 3: a window breaks its rule
unfoldable pub owned_fault : ℕ → Board → List Owned → Fault
owned_fault owners b ws = fault_at 3 (bad_owned owners b ws)

-- a window with its owner alone, as a constructor takes it
unfoldable pub owned_answer : ℕ → Board → Owned → Answer Owned
owned_answer owners b w = unless (owned_fault owners b (w ∷ [])) w

-- 1, 2 and 3, which may depend on every team
unfoldable pub whole_fault : ℕ → Board → List ℕ → Fault
whole_fault owners b ws = owned_list_fault ws or_else frame_fault b or_else owned_fault owners b (owned_of ws)

-- 1: the asked owner has no window. One that does not exist has none in a list that keeps rule 3
unfoldable pub absent_owner_fault : Board → List ℕ → Fault
absent_owner_fault b ws = fault_if (eqb (length (own b ws)) 0) 1 0

-- a window shorter than the board allows
unfoldable pub sliver : Board → Owned → Bool
sliver b w = ltb (w.window.end - w.window.start) b.shortest

-- the lowest index of one in the whole list, whoever owns it
unfoldable pub first_sliver : Board → List Owned → Option ℕ
first_sliver b ws = first (λ i. sliver b (owned_at ws i)) (length ws)

-- 12, which may depend on every team: the shortest allowed window is out of its range, then a window is shorter
unfoldable pub sliver_fault : Board → List ℕ → Fault
sliver_fault b ws = shortest_fault b or_else fault_at 12 (first_sliver b (owned_of ws))

-- 13, by the board and one owner's windows, in pairs: a rule or lost ticks that a board cannot have, then no tick is left
unfoldable pub lost_fault : Board → List ℕ → Fault
lost_fault b mine = rule_fault b or_else fault_if (eqb (length (left_of b.lost (windows_of mine))) 0) 13 0

-- what an entry refuses of a table
unfoldable pub shared_fault : ℕ → Board → List ℕ → Fault
shared_fault owners b ws = whole_fault owners b ws or_else absent_owner_fault b ws or_else sliver_fault b ws or_else lost_fault b (own b ws)

-- ---- what is left of the owner's windows by itself, in lent memory: how many numbers, and the memory afterwards

unfoldable pub own_fault : ℕ → Board → List ℕ → ℕ → Fault
own_fault owners b ws room = shared_fault owners b ws or_else room_fault (length (own_left b ws)) room

unfoldable pub own_answer : ℕ → Board → List ℕ → ℕ → Answer ℕ
own_answer owners b ws room = unless (own_fault owners b ws room) (length (own_left b ws))

unfoldable pub own_out : ℕ → Board → List ℕ → List ℕ → List ℕ
own_out owners b ws out = unless_kept (own_fault owners b ws (length out)) (written (own_left b ws) out) out

-- the same of pairs that are read as one owner's

unfoldable pub as_owned_answer : ℕ → List ℕ → ℕ → Answer ℕ
as_owned_answer o ws room = unless (room_fault (length (as_owned o ws)) room) (length (as_owned o ws))

unfoldable pub as_owned_out : ℕ → List ℕ → List ℕ → List ℕ
as_owned_out o ws out = unless_kept (room_fault (length (as_owned o ws)) (length out)) (written (as_owned o ws) out) out

-- ---- entries. Windows ws are a list of numbers in threes

-- a refusal in place of what is given
abbrev pub unless_refused : {R : Type 0} → Fault → (ℕ → ℕ → R) → R → R
unless_refused fine refusal r = r
unless_refused (fault number place) refusal r = refusal number place

-- what is asked for an owner: the refusal of the list, or what the owner's windows get, as if they were the table
unfoldable pub asked_for : {R : Type 0} → ℕ → Board → List ℕ → (ℕ → ℕ → R) → (List ℕ → R) → R
asked_for owners b ws refusal entry = unless_refused (shared_fault owners b ws) refusal (entry (own b ws))

-- an answer is refused, a lent buffer is kept
abbrev pub kept : {A : Type 0} → List A → ℕ → ℕ → List A
kept out number place = out

unfoldable pub supplied_for : Board → List ℕ → ℕ → Answer Bool
supplied_for b ws k = asked_for teams b ws refused (λ mine. supplied_answer b mine k)

unfoldable pub least_supply_for : Board → List ℕ → ℕ → Answer ℕ
least_supply_for b ws t = asked_for teams b ws refused (λ mine. least_supply_answer b mine t)

unfoldable pub critical_for : Board → List ℕ → ℕ → Answer ℕ
critical_for b ws room = asked_for teams b ws refused (λ mine. critical_answer b mine room)

unfoldable pub critical_out_for : Board → List ℕ → List ℕ → List ℕ
critical_out_for b ws out = asked_for teams b ws (kept out) (λ mine. critical_out b mine out)

unfoldable pub delay_for : Board → List ℕ → Answer Delay
delay_for b ws = asked_for teams b ws refused (delay_answer b)

unfoldable pub outage_for : Board → List ℕ → Answer ℕ
outage_for b ws = asked_for teams b ws refused (outage_answer b)

unfoldable pub margin_for : Board → List ℕ → List ℕ → ℕ → Answer ℤ
margin_for b ws ts t = asked_for teams b ws refused (λ mine. margin_answer b mine ts t)

unfoldable pub verdict_for : Board → List ℕ → List ℕ → Answer Verdict
verdict_for b ws ts = asked_for teams b ws refused (λ mine. verdict_answer b mine ts)

unfoldable pub bound_for : Board → List ℕ → List ℕ → ℕ → Answer Bound
bound_for b ws ts i = asked_for teams b ws refused (λ mine. bound_answer b mine ts i)

unfoldable pub run_for : Board → List ℕ → List ℕ → ℕ → List ℕ → ℕ → Answer Ran
run_for b ws ts n js room = asked_for teams b ws refused (λ mine. run_answer b mine ts n js room)

unfoldable pub run_out_for : Board → List ℕ → List ℕ → ℕ → List ℕ → List ℕ → List ℕ
run_out_for b ws ts n js out = asked_for teams b ws (kept out) (λ mine. run_out b mine ts n js out)

unfoldable pub records_for : Board → List ℕ → List ℕ → List Record → Answer Replayed
records_for b ws ts rs = asked_for teams b ws refused (λ mine. records_answer b mine ts rs)

-- 9 before all others
unfoldable pub replay_for : Board → List ℕ → List ℕ → List ℕ → Answer Replayed
replay_for b ws ts bytes = or_nine (trace_of bytes) (λ rs end. records_for b ws ts (timed rs))

-- ---- plan files

-- the windows are pairs, and owner 0's; a file without the settings allows windows of one tick, and is rule 1
abbrev pub plan_board : Plan → Board
plan_board p = record {
  frame = p.frame;
  owner = 0;
  shortest = get_or p.settings 0 1;
  rule = get_or p.settings 1 1;
  lost = get_or p.settings 2 0;
}

-- the verdict of a plan file of k settings: none, the first, or all three
unfoldable pub plan_answer : ℕ → List ℕ → Answer Verdict
plan_answer k bytes = and_then (plan_of k bytes) (λ p. verdict_for (plan_board p) (as_owned 0 p.windows) p.tasks)
