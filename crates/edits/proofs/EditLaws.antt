-- An edit in two halves, as the code makes it, and the list that it leaves
use borrow.Rule.Slice.PartMut.{put_mid}
use mathlib.Core.Path.{◌≡◌, refl, sym, ap, ◌∙◌}
use mathlib.Core.Bool.{true}
use mathlib.Core.List.{List, ◌++◌, append_assoc}
use Prim.Native.Nat.{ℕ, ◌+◌, ◌-◌, ◌*◌, ◌/◌, ◌%◌, ◌≤◌, ◌<◌}
use native.Mathlib.Omega.{arith}
use lib.Dec.{ltb}
use lib.ListN.{length, take, drop, length-append, length-drop}
use lib.Seq.{take-append_seam, drop-append_seam, drop-drop, length-take-le}
use borrow.Author.Tests.{lt-ltb, le-ltb}
use Rattle.std.proofs.lemmas.List.{take_rest}
use Rattle.scope.specs.Numbers.{written}
use Rattle.scope.specs.Limits.{most_windows}
use Rattle.scope.specs.Windows.{Board, framed}
use Rattle.scope.specs.Answers.{Fault, Fault.fine, Fault.fault, Answer.given, Answer.refused, ◌or_else◌, unless_kept, table_fault, room_fault}
use Rattle.scope.specs.Shared.{Owned, owned, own, shared_fault}
use Rattle.scope.specs.Summary.{summary_of, make_fault, make_answer, make_out, summary_fault, Edit, spliced, index_fault, table_in, count_fault, edited_list, edit_fault, edit_answer, edit_windows, edit_summary}
use Rattle.theory.specs.Answers.{or_else_fine, unless_given, room_fine}
use Rattle.theory.specs.Lists.{pieces_length}
use Rattle.theory.specs.Shared.{whole, shared_parts, own_fine}
use Rattle.theory.specs.Buffers.{take_written}
use Rattle.theory.specs.Alone.{Entry, make_entry, make_out_entry}
use Rattle.tables.proofs.FaultLaws.{fault_of_lem, none_of, or_assoc, stopped, passed, given_there}
use Rattle.shared.specs.Lent.{own_table_answer, own_table_fine, table_entry}
use Rattle.edits.specs.Stored.{ready_fault, store_fault, store_answer, store_windows, store_summary}

-- ---- the asked owner's windows, as a table

belongs_entry : (summary : List ℕ) → Entry fault (λ b mine. table_fault b mine or_else summary_fault b mine summary)
unfolding summary_fault summary_of
belongs_entry summary = record { checks = λ b ws n p e. rw e; by_ticks = λ b c ws vs e f s. rw (f, s, e) }

make_fault_entry : (room : ℕ) → Entry fault (λ b mine. make_fault b mine room)
unfolding make_fault summary_of
make_fault_entry room = record { checks = λ b ws n p e. rw e; by_ticks = λ b c ws vs e f s. rw (f, s, e) }

module _ (owners : ℕ) (b : Board) (ws : List ℕ) where
  own_refused : {n p : ℕ} → refused n p ≡ own_table_answer owners b ws → fault n p ≡ shared_fault owners b ws
  unfolding own_table_answer
  own_refused e = fault_of_lem (shared_fault owners b ws) _ e

  module _ {P : ℕ} {mine : List ℕ} (e : given (record { frame = P; windows = mine }) ≡ own_table_answer owners b ws) where
    own_given : fine ≡ shared_fault owners b ws
    unfolding own_table_answer
    own_given = none_of (shared_fault owners b ws) _ _ e

    own_entry : {R : Type 0} {refusal : ℕ → ℕ → R} {entry : Board → List ℕ → R} → Entry refusal entry → entry (framed P) mine ≡ entry b (own b ws)
    own_entry is = table_entry is owners b ws e

    own_belongs : (summary : List ℕ) → summary_fault (framed P) mine summary ≡ summary_fault b (own b ws) summary
    own_belongs summary =
        let both : (table_fault (framed P) mine or_else summary_fault (framed P) mine summary) ≡ summary_fault b (own b ws) summary =
        own_entry (belongs_entry summary) ∙ rw (own_fine owners b ws (sym own_given)) in
        rw (own_table_fine owners b ws e) at both

  -- ---- refused before the new list is looked at: the table, a summary that is another's, and the index then

  module _ (summary : List ℕ) (edit : Edit) (count : ℕ) where
    pub ready_refused : {n p : ℕ} → refused n p ≡ own_table_answer owners b ws → fault n p ≡ ready_fault owners b ws summary edit count
    unfolding ready_fault
    ready_refused e = stopped _ (own_refused e)

    module _ {P : ℕ} {mine : List ℕ} (e : given (record { frame = P; windows = mine }) ≡ own_table_answer owners b ws) where
      pub ready_stopped : {n p : ℕ} → fault n p ≡ summary_fault (framed P) mine summary → fault n p ≡ ready_fault owners b ws summary edit count
      unfolding ready_fault
      ready_stopped is = passed (own_given e) (stopped _ (is ∙ own_belongs e summary))

      pub ready_passed : {f : Fault} → fine ≡ summary_fault (framed P) mine summary → f ≡ index_fault edit count →
          f ≡ ready_fault owners b ws summary edit count
      unfolding ready_fault
      ready_passed k is = passed (own_given e) (passed (k ∙ own_belongs e summary) is)

-- ---- the list that an edit leaves, in three copies

-- numbers copied to just after those that are written
copied_after : (l d ys : List ℕ) (at k : ℕ) → at ≡ length l → k ≡ length ys → put_mid at k (written l d) ys ≡ written (l ++ ys) d
unfolding written
copied_after l d ys at k e f = rw (e, f) (simp (take-append_seam, drop-append_seam, drop-drop, length-append, append_assoc))

-- what stays before the window, what comes there, and what stays after it
pub spliced_copies : (list come room front middle back : List ℕ) (i gone k n end : ℕ) → 3 * (i + gone) ≤ length list → front ≡ take (3 * i) list → middle ≡ come →
    back ≡ take (length list - 3 * (i + gone)) (drop (3 * (i + gone)) list) → k ≡ length come → n ≡ length list - 3 * (i + gone) →
    end ≡ 3 * i + length come + (length list - 3 * (i + gone)) →
    take end (put_mid (3 * i + length come) n (put_mid (3 * i) k (front ++ drop (3 * i) room) middle) back) ≡ spliced i gone come list
unfolding written
spliced_copies list come room front middle back i gone k n end h e f g few left all =
    let l : List ℕ = take (3 * i) list in
    let rest : List ℕ = drop (3 * (i + gone)) list in
    let at : 3 * i ≡ length l = sym (length-take-le (3 * i) list (omega arith)) in
    let tail : back ≡ rest = g ∙ take_rest list (3 * (i + gone)) in
    let one : front ++ drop (3 * i) room ≡ written l room = rw (e, ← at) refl in
    let two : put_mid (3 * i) k (front ++ drop (3 * i) room) middle ≡ written (l ++ come) room = rw (one, f) (copied_after l room come (3 * i) k at few) in
    let three : put_mid (3 * i + length come) n (written (l ++ come) room) rest ≡ written (spliced i gone come list) room =
    copied_after (l ++ come) room rest (3 * i + length come) n (omega (arith, at, length-append l come)) (omega (arith, length-drop (3 * (i + gone)) list)) in
    let whole_length : end ≡ length (spliced i gone come list) =
    omega (arith, at, length-append l come, length-append (l ++ come) rest, length-drop (3 * (i + gone)) list) in
    rw (two, tail, three, whole_length) (take_written (spliced i gone come list) room)

-- ---- putting the new list into lent memory: refused are the table, and then too little room

module _ (owners : ℕ) (b : Board) (new : List ℕ) (windows : ℕ) where
  pub store_refused : (summary : ℕ) {n p : ℕ} → refused n p ≡ own_table_answer owners b new → fault n p ≡ store_fault owners b new windows summary
  unfolding store_fault
  store_refused summary e = stopped _ (own_refused owners b new e)

  module _ {P : ℕ} {mine : List ℕ} (e : given (record { frame = P; windows = mine }) ≡ own_table_answer owners b new) where
    pub store_short : (summary : ℕ) {n p : ℕ} → fault n p ≡ room_fault (length new) windows → fault n p ≡ store_fault owners b new windows summary
    unfolding store_fault
    store_short summary is = passed (own_given owners b new e) (stopped _ is)

    -- with room for the windows, only the summary's may be missing, as making it says
    module _ (roomy : fine ≡ room_fault (length new) windows) where
      store_own : (summary : ℕ) → make_fault b (own b new) summary ≡ store_fault owners b new windows summary
      unfolding store_fault make_fault
      store_own summary = let f = own_given owners b new e in rw (own_fine owners b new (sym f), ← f, ← roomy) refl

      module _ (summary : ℕ) where
        store_make : make_fault (framed P) mine summary ≡ store_fault owners b new windows summary
        store_make = own_entry owners b new e (make_fault_entry summary) ∙ store_own summary

        pub store_unmade : {n p : ℕ} → refused n p ≡ make_answer (framed P) mine summary → fault n p ≡ store_fault owners b new windows summary
        unfolding make_answer
        store_unmade is = fault_of_lem (make_fault (framed P) mine summary) _ is ∙ store_make

        pub store_made : {n : ℕ} → given n ≡ make_answer (framed P) mine summary → fine ≡ store_fault owners b new windows summary
        unfolding make_answer
        store_made is = none_of (make_fault (framed P) mine summary) _ _ is ∙ store_make

        pub store_given : {n : ℕ} → given n ≡ make_answer (framed P) mine summary →
            given (record { windows = length new / 3; numbers = n }) ≡ store_answer owners b new windows summary
        unfolding store_answer make_answer
        store_given is =
            let u = unless_given _ _ _ (sym (is ∙ own_entry owners b new e (make_entry summary))) in
            rw (← u.1) (given_there _ (store_made is))

      -- then the summary's memory is as making it leaves it
      pub stored_summary : {left : List ℕ} (summary : List ℕ) → left ≡ make_out (framed P) mine summary → left ≡ store_summary owners b new windows summary
      unfolding make_out store_summary
      stored_summary summary is =
          is ∙ own_entry owners b new e (make_out_entry summary)
          ∙ ap (λ (f : Fault). unless_kept f (written (summary_of b (own b new)) summary) summary) (store_own (length summary))

-- where there is room for a list, so many numbers are there
pub room_taken : (l : List ℕ) (n : ℕ) → fine ≡ room_fault n (length l) → length (take n l) ≡ n
room_taken l n e = length-take-le n l (room_fine n (length l) (sym e))

-- ---- an edit is one half after the other

module _ (owners : ℕ) (b : Board) (count : ℕ) (memory summary : List ℕ) (edit : Edit) where
  pub edit_short : length memory / 3 < count → fault 1 0 ≡ edit_fault owners b count memory summary edit
  unfolding edit_fault count_fault
  edit_short h = let short : ltb (length memory) (3 * count) ≡ true = lt-ltb (length memory) (3 * count) (omega arith) in rw short

  module _ (h : count ≤ length memory / 3) where
    -- the list is counted as it was told
    told_count : length (table_in count memory) / 3 ≡ count
    told_count = omega (arith, length-take-le (3 * count) memory (omega arith))

    halves : (ready_fault owners b (table_in count memory) summary edit (length (table_in count memory) / 3)
        or_else store_fault owners b (edited_list count memory edit) (length memory) (length summary)) ≡ edit_fault owners b count memory summary edit
    unfolding edit_fault ready_fault store_fault count_fault
    halves =
        rw (told_count, le-ltb (length memory) (3 * count) (omega arith))
        (or_assoc (shared_fault owners b (table_in count memory)) _ _
        ∙ ap (λ (f : Fault). shared_fault owners b (table_in count memory) or_else f) (or_assoc (summary_fault b (own b (table_in count memory)) summary) _ _))

    pub edit_stopped : {n p : ℕ} → fault n p ≡ ready_fault owners b (table_in count memory) summary edit (length (table_in count memory) / 3) →
        fault n p ≡ edit_fault owners b count memory summary edit
    edit_stopped e = stopped _ e ∙ halves

    module _ (e : fine ≡ ready_fault owners b (table_in count memory) summary edit (length (table_in count memory) / 3)) where
      then_store : store_fault owners b (edited_list count memory edit) (length memory) (length summary) ≡ edit_fault owners b count memory summary edit
      then_store = passed e refl ∙ halves

      -- and its answer and both memories are those of the second half
      pub edit_answer_lem : store_answer owners b (edited_list count memory edit) (length memory) (length summary) ≡ edit_answer owners b count memory summary edit
      unfolding store_answer edit_answer
      edit_answer_lem = rw then_store refl

      pub edit_windows_lem : store_windows owners b (edited_list count memory edit) memory (length summary) ≡ edit_windows owners b count memory summary edit
      unfolding store_windows edit_windows
      edit_windows_lem = rw then_store refl

      pub edit_summary_lem : store_summary owners b (edited_list count memory edit) (length memory) summary ≡ edit_summary owners b count memory summary edit
      unfolding store_summary edit_summary
      edit_summary_lem = rw then_store refl

-- what is known then of the list as it is
pub ready_list : (owners : ℕ) (b : Board) (list summary : List ℕ) (edit : Edit) → fine ≡ ready_fault owners b list summary edit (length list / 3) →
    (index_fault edit (length list / 3) ≡ fine) × (length list % 3 ≡ 0) × (length list ≤ 3 * most_windows)
unfolding ready_fault
ready_list owners b list summary edit e =
    let p = or_else_fine (shared_fault owners b list) _ (sym e) in
    let q = or_else_fine (summary_fault b (own b list) summary) _ p.1 in
    let w = whole owners b list (shared_parts owners b list p.0).0 in
    (q.1, w.threes, omega (arith, w.threes, w.few, pieces_length Owned 3 owned list))
