-- The checks of a run, in their order, and what they leave
use mathlib.Core.Path.{◌≡◌, sym, ap, ◌∙◌}
use mathlib.Core.List.{List}
use Prim.Native.Nat.{ℕ, ◌≤◌}
use native.Mathlib.Omega.{arith}
use lib.ListN.{length}
use Rattle.scope.specs.Limits.{most_ticks, most_jobs, teams}
use Rattle.scope.specs.Windows.{Board, framed, supplied_by}
use Rattle.scope.specs.Numbers.{written}
use Rattle.scope.specs.Tasks.{tasks_of}
use Rattle.scope.specs.Jobs.{jobs_of, job}
use Rattle.scope.specs.Machine.{edf}
use Rattle.scope.specs.Run.{ran, counts}
use Rattle.scope.specs.Answers.{Fault, Fault.fine, Fault.fault, Answer.given, Answer.refused, ◌or_else◌, group_fault, job_list_fault, job_fault, room_fault}
use Rattle.scope.specs.Answers.{run_fault, run_answer, run_out}
use Rattle.scope.specs.Shared.{run_for, run_out_for}
use Rattle.theory.specs.Lists.{pieces_length}
use Rattle.theory.specs.Answers.{run_given}
use Rattle.theory.specs.Alone.{run_entry, run_out_entry}
use Rattle.tables.specs.Lent.{Pairs}
use Rattle.tables.proofs.FaultLaws.{or_assoc, passed, refused_there, given_there, kept_there, written_there}
use Rattle.shared.specs.Lent.{own_table_answer, own_table_fine, asked_table, asked_no_table}
use Rattle.jobs.specs.Legal.{Tasks, Jobs}
use Rattle.jobs.proofs.Legality.{tasks_of_lem, jobs_of_lem}

-- the checks after the table's
abbrev later : (ts : List ℕ) (n : ℕ) (js : List ℕ) (room : ℕ) → Fault
later ts n js room = group_fault ts or_else job_list_fault n js or_else job_fault (tasks_of ts) n (jobs_of js) or_else room_fault (length (jobs_of js)) room

-- of the list and of the room, in their order
pub in_turn_lem : (ts : List ℕ) (n : ℕ) (js : List ℕ) (room : ℕ) →
    ((group_fault ts or_else job_list_fault n js or_else job_fault (tasks_of ts) n (jobs_of js)) or_else room_fault (length (jobs_of js)) room) ≡ later ts n js room
in_turn_lem ts n js room =
    let r : Fault = room_fault (length (jobs_of js)) room in
    or_assoc (group_fault ts) (job_list_fault n js or_else job_fault (tasks_of ts) n (jobs_of js)) r
    ∙ ap (λ (f : Fault). group_fault ts or_else f) (or_assoc (job_list_fault n js) (job_fault (tasks_of ts) n (jobs_of js)) r)

-- what is answered and written for an owner, by what the table of its windows says
module _ (b : Board) (ws ts : List ℕ) (n : ℕ) (js out : List ℕ) where
  pub no_table : {m p : ℕ} → refused m p ≡ own_table_answer teams b ws → (refused m p ≡ run_for b ws ts n js (length out)) × (out ≡ run_out_for b ws ts n js out)
  unfolding run_for run_out_for
  no_table e = (asked_no_table (run_entry ts n js (length out)) teams b ws e, asked_no_table (run_out_entry ts n js out) teams b ws e)

  module _ {t : Pairs} (e : given t ≡ own_table_answer teams b ws) where
    pub stopped_run : {m p : ℕ} → fault m p ≡ later ts n js (length out) → (refused m p ≡ run_for b ws ts n js (length out)) × (out ≡ run_out_for b ws ts n js out)
    unfolding run_for run_out_for run_answer run_out run_fault
    stopped_run k =
        let f = passed (sym (own_table_fine teams b ws e)) k in (
          refused_there _ f ∙ asked_table (run_entry ts n js (length out)) teams b ws e,
          kept_there _ _ f ∙ asked_table (run_out_entry ts n js out) teams b ws e,
        )

    module _ (k : fine ≡ later ts n js (length out)) where
      -- all that it needs
      pub legal_run : Tasks (tasks_of ts) × Jobs (tasks_of ts) (jobs_of js) × (n ≤ most_ticks) × (length (jobs_of js) ≤ length out)
      unfolding run_answer run_fault
      legal_run =
          let r = run_given (framed t.frame) t.windows ts n js (length out) _ (sym (given_there _ (passed (sym (own_table_fine teams b ws e)) k))) in
          let few : length (jobs_of js) ≤ most_jobs = omega (arith, pieces_length _ 3 job js, r.few) in
          (tasks_of_lem ts r.group, jobs_of_lem (tasks_of ts) n (jobs_of js) r.jobs r.ticks few, r.ticks, r.roomy)

      pub done_run : let σ = supplied_by (framed t.frame) t.windows in let before = edf (tasks_of ts) (jobs_of js) in
          (given (ran σ before (tasks_of ts) (jobs_of js) n) ≡ run_for b ws ts n js (length out))
          × (written (counts σ before (tasks_of ts) (jobs_of js) n) out ≡ run_out_for b ws ts n js out)
      unfolding run_for run_out_for run_answer run_out run_fault
      done_run =
          let f = passed (sym (own_table_fine teams b ws e)) k in (
            given_there _ f ∙ asked_table (run_entry ts n js (length out)) teams b ws e,
            written_there _ _ f ∙ asked_table (run_out_entry ts n js out) teams b ws e,
          )
