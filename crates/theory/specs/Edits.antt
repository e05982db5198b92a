-- Document 02, request 6, of edits: what an edit leaves belongs to the table it leaves, an edit is undone by its opposite, every refusal of one and which check
-- gives it, and what of it may depend on the other team
use Rattle.std.specs.Prelude.{◌≡◌, Bool, true, false, not, cond, ◌||◌, ◌⊎◌, ◌≢◌, ◌↔◌, leb, ltb, eqb, take, drop}
use Rattle.std.proofs.Math.Path.{refl, sym, ap}
use Rattle.std.proofs.Common.{◌∙◌, inl, inr, arith, length-append, length-drop, take-append-drop, length-take-le, take_at, drop_at, drop-cons, get_or-append-add}
use Rattle.std.proofs.Math.Option.{Option, none, some}
use mathlib.Core.List.{List, [], ◌∷◌, ◌++◌, append-nil, append_assoc}
use Prim.Native.Nat.{ℕ, suc, ◌+◌, ◌-◌, ◌*◌, ◌/◌, ◌%◌, ◌≤◌, ◌<◌}
use Rattle.std.proofs.Math.ListN.{length, get_or}
use borrow.Author.Tests.{eqb-true, eqb-false, ltb-true, ltb-false, leb-false, lt-leb, lt-ltb, le-ltb, ne_eqb}
use Rattle.scope.specs.Numbers.{first, pieces_from, pieces, written}
use Rattle.scope.specs.Limits.{most_windows, teams}
use Rattle.scope.specs.Windows.{Board}
use Rattle.scope.specs.Answers.{Fault, Fault.fine, Fault.fault, Answer, Answer.given, Answer.refused, fault_if, fault_at, ◌or_else◌, unless, table_fault, frame_fault, shortest_fault, rule_fault, room_fault}
use Rattle.scope.specs.Shared.{Owned, owned, owned_of, owned_at, windows_for, own, owned_legal, bad_owned, owned_list_fault, owned_fault, whole_fault, absent_owner_fault}
use Rattle.scope.specs.Shared.{own_left, sliver, first_sliver, sliver_fault, lost_fault, shared_fault, kept}
use Rattle.scope.specs.Summary.{summary_of, make_fault, make_answer, make_out, make_for, make_out_for, begins, summary_fault, Edit, Edit.move, Edit.add, Edit.remove, spliced, edited, index_fault, table_in, count_fault}
use Rattle.scope.specs.Summary.{edited_list, edited_summary, edit_fault, Edited, edit_answer, edit_windows, edit_summary}
use Rattle.theory.specs.Numbers.{first_some}
use Rattle.theory.specs.Lists.{none_listed, pieces_length, pieces_append, whole_count}
use Rattle.theory.specs.Answers.{fault_not_fine, fault_if_fine, or_else_fine, unless_given, unless_refused_lem, room_fine, fine_room, room_fault_lem}
use Rattle.theory.specs.Refused.{edit_kept}
use Rattle.theory.specs.Summaries.{fine_begins, begins_fine}
use Rattle.theory.specs.Buffers.{length_written, take_written, written_begins, begins_length, begins_written}
use Rattle.theory.specs.Shared.{shared_parts, whole, own_fine, asked_fine}
use Rattle.theory.specs.Losses.{Cause, Cause.none_left, lost_thirteen, lost_exactly}
use Rattle.theory.specs.Alone.{Alike, summary_same, own_same, teams_fault, WholeRefusal, WholeRefusal.by_count, WholeRefusal.by_frame, WholeRefusal.by_window, WholeRefusal.by_range, WholeRefusal.by_sliver, whole_refusal}

-- ---- what an edit that is made has checked

-- the index is that of a window; adding may be after the last
abbrev pub Allowed : Edit → ℕ → Type 0
Allowed (move i s e) count = i < count
Allowed (add i s e o) count = i ≤ count
Allowed (remove i) count = i < count

pub index_allowed : (edit : Edit) (count : ℕ) → index_fault edit count ≡ fine → Allowed edit count
unfolding index_fault
index_allowed (move i s e) count f = leb-false count i (fault_if_fine _ 7 0 f)
index_allowed (add i s e o) count f = ltb-false count i (fault_if_fine _ 7 0 f)
index_allowed (remove i) count f = leb-false count i (fault_if_fine _ 7 0 f)

allowed_fine : (edit : Edit) (count : ℕ) → Allowed edit count → index_fault edit count ≡ fine
unfolding index_fault
allowed_fine (move i s e) count h = rw (lt-leb count i h)
allowed_fine (add i s e o) count h = rw (le-ltb count i h)
allowed_fine (remove i) count h = rw (lt-leb count i h)

-- what a fresh making writes for the list in lent window memory
abbrev pub summary_in : Board → ℕ → List ℕ → List ℕ
summary_in b count memory = summary_of b (own b (table_in count memory))

-- the table as it is has no fault, and the summary is its own
pub record Ready (owners : ℕ) (b : Board) (count : ℕ) (memory summary : List ℕ) : Type 0 where
  pub counted : 3 * count ≤ length memory
  pub before : shared_fault owners b (table_in count memory) ≡ fine
  pub belongs : begins (summary_in b count memory) summary ≡ true

module _ (owners : ℕ) (b : Board) (count : ℕ) (memory summary : List ℕ) (edit : Edit) where
  -- all is checked but room
  pub record Fitting : Type 0 where
    pub ready : Ready owners b count memory summary
    pub allowed : Allowed edit count
    pub after : shared_fault owners b (edited_list count memory edit) ≡ fine

  pub record EditParts : Type 0 where
    pub fitting : Fitting
    pub room : length (edited_list count memory edit) ≤ length memory
    pub summary_room : length (edited_summary b count memory edit) ≤ length summary

  pub edit_parts : edit_fault owners b count memory summary edit ≡ fine → EditParts
  unfolding edit_fault count_fault
  edit_parts f =
      let old : Fault = shared_fault owners b (table_in count memory) in
      let its : Fault = summary_fault b (own b (table_in count memory)) summary in
      let new : Fault = shared_fault owners b (edited_list count memory edit) in
      let windows : Fault = room_fault (length (edited_list count memory edit)) (length memory) in
      let numbers : Fault = room_fault (length (edited_summary b count memory edit)) (length summary) in
      let p₁ = or_else_fine (count_fault count memory) (old or_else its or_else index_fault edit count or_else new or_else windows or_else numbers) f in
      let p₂ = or_else_fine old (its or_else index_fault edit count or_else new or_else windows or_else numbers) p₁.1 in
      let p₃ = or_else_fine its (index_fault edit count or_else new or_else windows or_else numbers) p₂.1 in
      let p₄ = or_else_fine (index_fault edit count) (new or_else windows or_else numbers) p₃.1 in
      let p₅ = or_else_fine new (windows or_else numbers) p₄.1 in
      let p₆ = or_else_fine windows numbers p₅.1 in
      let ready : Ready owners b count memory summary = record {
        counted = ltb-false (length memory) (3 * count) (fault_if_fine _ 1 0 p₁.0);
        before = p₂.0;
        belongs = fine_begins b (own b (table_in count memory)) summary p₃.0;
      } in
      record {
        fitting = record { ready = ready; allowed = index_allowed edit count p₄.0; after = p₅.0 };
        room = room_fine (length (edited_list count memory edit)) (length memory) p₆.0;
        summary_room = room_fine (length (edited_summary b count memory edit)) (length summary) p₆.1;
      }

  -- what is checked after the table as it is and its summary, and after the index
  abbrev new_fault : Fault
  new_fault =
      shared_fault owners b (edited_list count memory edit) or_else room_fault (length (edited_list count memory edit)) (length memory)
      or_else room_fault (length (edited_summary b count memory edit)) (length summary)

  ready_fault_lem : Ready owners b count memory summary → edit_fault owners b count memory summary edit ≡ (index_fault edit count or_else new_fault)
  unfolding edit_fault count_fault
  ready_fault_lem r =
      rw (le-ltb (length memory) (3 * count) r.counted, r.before, begins_fine b (own b (table_in count memory)) summary r.belongs)

  indexed_fault : Ready owners b count memory summary → Allowed edit count → edit_fault owners b count memory summary edit ≡ new_fault
  indexed_fault r a = ready_fault_lem r ∙ rw (allowed_fine edit count a)

  -- and nothing else is checked
  pub parts_edit : EditParts → edit_fault owners b count memory summary edit ≡ fine
  parts_edit p =
      indexed_fault p.fitting.ready p.fitting.allowed ∙ rw (
        p.fitting.after,
        fine_room (length (edited_list count memory edit)) (length memory) p.room,
        fine_room (length (edited_summary b count memory edit)) (length summary) p.summary_room,
      )

  -- what is answered, and both memories afterwards
  pub record EditGiven (x : Edited) : Type 0 where
    pub parts : EditParts
    pub windows : x.windows ≡ length (edited_list count memory edit) / 3
    pub numbers : x.numbers ≡ length (edited_summary b count memory edit)
    pub window_memory : edit_windows owners b count memory summary edit ≡ written (edited_list count memory edit) memory
    pub summary_memory : edit_summary owners b count memory summary edit ≡ written (edited_summary b count memory edit) summary

  pub edit_given : (x : Edited) → edit_answer owners b count memory summary edit ≡ given x → EditGiven x
  unfolding edit_answer edit_windows edit_summary
  edit_given x e =
      let u = unless_given (edit_fault owners b count memory summary edit) _ x e in
      record {
        parts = edit_parts u.0;
        windows = ap (λ (y : Edited). y.windows) (sym u.1);
        numbers = ap (λ (y : Edited). y.numbers) (sym u.1);
        window_memory = rw u.0;
        summary_memory = rw u.0;
      }

  pub parts_given : EditParts →
      edit_answer owners b count memory summary edit
      ≡ given (record { windows = length (edited_list count memory edit) / 3; numbers = length (edited_summary b count memory edit) })
  unfolding edit_answer
  parts_given p = rw (parts_edit p)

  -- an edit that leaves a list with a fault is refused by that fault
  pub new_refused : Ready owners b count memory summary → Allowed edit count → (n p : ℕ) → shared_fault owners b (edited_list count memory edit) ≡ fault n p →
      edit_answer owners b count memory summary edit ≡ refused n p
  unfolding edit_answer
  new_refused r a n p f = rw (indexed_fault r a, f)

  -- ---- what an edit leaves belongs to the table it leaves: the list is the edited one and has no fault, and the summary is that of a fresh making
  pub record Left (x : Edited) (m s : List ℕ) : Type 0 where
    pub list : table_in x.windows m ≡ edited_list count memory edit
    pub legal : shared_fault owners b (table_in x.windows m) ≡ fine
    pub belongs : summary_fault b (own b (table_in x.windows m)) s ≡ fine
    pub window_length : length m ≡ length memory
    pub summary_length : length s ≡ length summary

  pub edit_leaves : (x : Edited) → edit_answer owners b count memory summary edit ≡ given x →
      Left x (edit_windows owners b count memory summary edit) (edit_summary owners b count memory summary edit)
  edit_leaves x e =
      let g = edit_given x e in
      let p = g.parts in
      let l : List ℕ = edited_list count memory edit in
      let threes = (whole owners b l (shared_parts owners b l p.fitting.after).0).threes in
      let n : 3 * x.windows ≡ length l = omega (arith, g.windows, threes) in
      let list : table_in x.windows (edit_windows owners b count memory summary edit) ≡ l = rw (n, g.window_memory) (take_written l memory) in
      record {
        list = list;
        legal = ap (shared_fault owners b) list ∙ p.fitting.after;
        belongs = rw (list, g.summary_memory) (begins_fine b (own b l) _ (written_begins (edited_summary b count memory edit) summary));
        window_length = ap length g.window_memory ∙ length_written l memory p.room;
        summary_length = ap length g.summary_memory ∙ length_written (edited_summary b count memory edit) summary p.summary_room;
      }

-- a fresh making of what is left, into the summary memory as it was, answers and leaves the same
pub edit_as_made : (b : Board) (count : ℕ) (memory summary : List ℕ) (edit : Edit) (x : Edited) → edit_answer teams b count memory summary edit ≡ given x →
    (make_for b (table_in x.windows (edit_windows teams b count memory summary edit)) (length summary) ≡ given x.numbers)
    × (make_out_for b (table_in x.windows (edit_windows teams b count memory summary edit)) summary ≡ edit_summary teams b count memory summary edit)
unfolding make_for make_answer make_out_for make_out make_fault
edit_as_made b count memory summary edit x e =
    let g = edit_given teams b count memory summary edit x e in
    let l : List ℕ = edited_list count memory edit in
    let mine : List ℕ = own b l in
    let is = (edit_leaves teams b count memory summary edit x e).list in
    let legal = g.parts.fitting.after in
    let table : table_fault b mine ≡ fine = own_fine teams b l legal in
    let room : room_fault (length (summary_of b mine)) (length summary) ≡ fine = fine_room (length (summary_of b mine)) (length summary) g.parts.summary_room in (
      ap (λ (ws : List ℕ). make_for b ws (length summary)) is
          ∙ asked_fine teams b l refused (λ ws. make_answer b ws (length summary)) legal ∙ rw (table, room) (ap given (sym g.numbers)),
      ap (λ (ws : List ℕ). make_out_for b ws summary) is
          ∙ asked_fine teams b l (kept summary) (λ ws. make_out b ws summary) legal ∙ rw (table, room) (sym g.summary_memory),
    )

-- ---- splicing

-- the three numbers from a place on
three_cons : (l : List ℕ) (n : ℕ) → n + 2 < length l → drop n l ≡ get_or l n 0 ∷ get_or l (n + 1) 0 ∷ get_or l (n + 2) 0 ∷ drop (n + 3) l
three_cons l n h =
    let e₁ : suc n ≡ n + 1 = omega arith in
    let e₂ : suc (n + 1) ≡ n + 2 = omega arith in
    let e₃ : suc (n + 2) ≡ n + 3 = omega arith in
    drop-cons l n 0 (omega arith)
    ∙ ap (λ (r : List ℕ). get_or l n 0 ∷ r)
    (ap (λ (k : ℕ). drop k l) e₁ ∙ drop-cons l (n + 1) 0 (omega arith)
    ∙ ap (λ (r : List ℕ). get_or l (n + 1) 0 ∷ r)
    (ap (λ (k : ℕ). drop k l) e₂ ∙ drop-cons l (n + 2) 0 h ∙ ap (λ (k : ℕ). get_or l (n + 2) 0 ∷ drop k l) e₃))

-- the numbers of window i
abbrev pub numbers_at : List ℕ → ℕ → List ℕ
numbers_at l i = get_or l (3 * i) 0 ∷ get_or l (3 * i + 1) 0 ∷ get_or l (3 * i + 2) 0 ∷ []

-- none in place of none
splice_none : (i : ℕ) (l : List ℕ) → spliced i 0 [] l ≡ l
splice_none i l = let e : 3 * (i + 0) ≡ 3 * i = omega arith in rw (append-nil, e) (take-append-drop (3 * i) l)

-- a window in place of itself
splice_same : (i : ℕ) (l : List ℕ) → 3 * i + 2 < length l → spliced i 1 (numbers_at l i) l ≡ l
splice_same i l h =
    let e : 3 * (i + 1) ≡ 3 * i + 3 = omega arith in
    append_assoc (take (3 * i) l) (numbers_at l i) (drop (3 * (i + 1)) l) ∙ ap (λ (k : ℕ). take (3 * i) l ++ (numbers_at l i ++ drop k l)) e
    ∙ ap (λ (r : List ℕ). take (3 * i) l ++ r) (sym (three_cons l (3 * i) h)) ∙ take-append-drop (3 * i) l

module _ (i : ℕ) (l : List ℕ) (h : 3 * i ≤ length l) where
  front : length (take (3 * i) l) ≡ 3 * i
  front = length-take-le (3 * i) l h

  splice_length : (gone : ℕ) (come : List ℕ) → length (spliced i gone come l) ≡ 3 * i + length come + (length l - 3 * (i + gone))
  splice_length gone come = rw (length-append, length-append, length-drop, front)

  -- what was put in place of windows goes for something else: as if that had come in their place
  splice_again : (gone n : ℕ) (come back : List ℕ) → length come ≡ 3 * n → spliced i n back (spliced i gone come l) ≡ spliced i gone back l
  splice_again gone n come back e =
      let rest : List ℕ = drop (3 * (i + gone)) l in
      let shown : length (take (3 * i) l ++ come) ≡ 3 * (i + n) = omega (arith, length-append (take (3 * i) l) come, front, e) in
      let ahead : take (3 * i) (spliced i gone come l) ≡ take (3 * i) l =
      ap (take (3 * i)) (append_assoc (take (3 * i) l) come rest) ∙ take_at (take (3 * i) l) (come ++ rest) (3 * i) front in
      let behind : drop (3 * (i + n)) (spliced i gone come l) ≡ rest = drop_at (take (3 * i) l ++ come) rest (3 * (i + n)) shown in
      rw (ahead, behind)

-- how many windows there are after an edit
abbrev pub count_after : Edit → ℕ → ℕ
count_after (move i s e) count = count
count_after (add i s e o) count = count + 1
count_after (remove i) count = count - 1

pub edited_length : (edit : Edit) (count : ℕ) (l : List ℕ) → length l ≡ 3 * count → Allowed edit count → length (edited edit l) ≡ 3 * count_after edit count
unfolding edited
edited_length (move i s e) count l n h = omega (arith, splice_length i l (omega arith) 1 (s ∷ e ∷ get_or l (3 * i + 2) 0 ∷ []))
edited_length (add i s e o) count l n h = omega (arith, splice_length i l (omega arith) 0 (s ∷ e ∷ o ∷ []))
edited_length (remove i) count l n h = omega (arith, splice_length i l (omega arith) 1 [])

-- of the list in lent memory
left_long : (edit : Edit) (count : ℕ) (memory : List ℕ) → 3 * count ≤ length memory → Allowed edit count →
    length (edited_list count memory edit) ≡ 3 * count_after edit count
left_long edit count memory counted allowed = edited_length edit count (table_in count memory) (length-take-le (3 * count) memory counted) allowed

-- ---- an edit is undone by another

-- the one that undoes an edit of a list
abbrev pub undo : Edit → List ℕ → Edit
undo (move i s e) l = move i (get_or l (3 * i) 0) (get_or l (3 * i + 1) 0)
undo (add i s e o) l = remove i
undo (remove i) l = add i (get_or l (3 * i) 0) (get_or l (3 * i + 1) 0) (get_or l (3 * i + 2) 0)

undo_allowed : (edit : Edit) (count : ℕ) (l : List ℕ) → Allowed edit count → Allowed (undo edit l) (count_after edit count)
undo_allowed (move i s e) count l h = h
undo_allowed (add i s e o) count l h = omega arith
undo_allowed (remove i) count l h = omega arith

pub undone : (edit : Edit) (count : ℕ) (l : List ℕ) → length l ≡ 3 * count → Allowed edit count → edited (undo edit l) (edited edit l) ≡ l
unfolding edited
undone (move i s e) count l n h =
    let o : ℕ = get_or l (3 * i + 2) 0 in
    let fit : 3 * i ≤ length l = omega arith in
    let rest : List ℕ = s ∷ e ∷ o ∷ drop (3 * (i + 1)) l in
    let kept : get_or (spliced i 1 (s ∷ e ∷ o ∷ []) l) (3 * i + 2) 0 ≡ o =
    ap (λ (k : List ℕ). get_or k (3 * i + 2) 0) (append_assoc (take (3 * i) l) (s ∷ e ∷ o ∷ []) (drop (3 * (i + 1)) l))
    ∙ ap (λ (k : ℕ). get_or (take (3 * i) l ++ rest) (k + 2) 0) (sym (front i l fit)) ∙ get_or-append-add (take (3 * i) l) rest 2 0 in
    ap (λ (c : ℕ). spliced i 1 (get_or l (3 * i) 0 ∷ get_or l (3 * i + 1) 0 ∷ c ∷ []) (spliced i 1 (s ∷ e ∷ o ∷ []) l)) kept
    ∙ splice_again i l fit 1 1 (s ∷ e ∷ o ∷ []) (numbers_at l i) (omega arith) ∙ splice_same i l (omega arith)
undone (add i s e o) count l n h = splice_again i l (omega arith) 0 1 (s ∷ e ∷ o ∷ []) [] (omega arith) ∙ splice_none i l
undone (remove i) count l n h = splice_again i l (omega arith) 1 0 [] (numbers_at l i) (omega arith) ∙ splice_same i l (omega arith)

-- an edit of n windows in the memories m and s is made, and afterwards the windows are those that `memory` has, so many, and the summary is theirs
pub record GivesBack (owners : ℕ) (b : Board) (count : ℕ) (memory : List ℕ) (n : ℕ) (m s : List ℕ) (back : Edit) : Type 0 where
  pub answered : edit_answer owners b n m s back ≡ given (record { windows = count; numbers = length (summary_in b count memory) })
  pub list : table_in count (edit_windows owners b n m s back) ≡ table_in count memory
  pub belongs : begins (summary_in b count memory) (edit_summary owners b n m s back) ≡ true

module _ (owners : ℕ) (b : Board) (count : ℕ) (memory summary : List ℕ) (edit : Edit) (x : Edited)
    (e : edit_answer owners b count memory summary edit ≡ given x) where
  abbrev m' : List ℕ
  m' = edit_windows owners b count memory summary edit

  abbrev s' : List ℕ
  s' = edit_summary owners b count memory summary edit

  abbrev back : Edit
  back = undo edit (table_in count memory)

  -- the numbers of the list before
  held : length (table_in count memory) ≡ 3 * count
  held = length-take-le (3 * count) memory (edit_given owners b count memory summary edit x e).parts.fitting.ready.counted

  -- how many windows are answered
  pub count_answered : x.windows ≡ count_after edit count
  count_answered =
      let g = edit_given owners b count memory summary edit x e in
      omega (arith, g.windows, left_long edit count memory g.parts.fitting.ready.counted g.parts.fitting.allowed)

  -- the list before comes back
  back_list : edited_list x.windows m' back ≡ table_in count memory
  back_list =
      ap (edited back) (edit_leaves owners b count memory summary edit x e).list
      ∙ undone edit count (table_in count memory) held (edit_given owners b count memory summary edit x e).parts.fitting.allowed

  back_parts : EditParts owners b x.windows m' s' back
  back_parts =
      let g = (edit_given owners b count memory summary edit x e).parts in
      let p = g.fitting in
      let l = edit_leaves owners b count memory summary edit x e in
      let n = left_long edit count memory p.ready.counted p.allowed in
      let room = begins_length (summary_in b count memory) summary p.ready.belongs in
      record {
        fitting = record {
          ready = record {
            counted = omega (arith, count_answered, n, g.room, l.window_length);
            before = l.legal;
            belongs = fine_begins b (own b (table_in x.windows m')) s' l.belongs;
          };
          allowed = rw count_answered (undo_allowed edit count (table_in count memory) p.allowed);
          after = rw back_list p.ready.before;
        };
        room = omega (arith, ap length back_list, held, p.ready.counted, l.window_length);
        summary_room = rw back_list (omega (arith, room, l.summary_length));
      }

  -- the edit that undoes it is made, and gives back both lists
  pub edit_undone : GivesBack owners b count memory x.windows m' s' back
  edit_undone =
      let y : Edited = record { windows = count; numbers = length (summary_in b count memory) } in
      let c : length (table_in count memory) / 3 ≡ count = omega (arith, held) in
      let answered : edit_answer owners b x.windows m' s' back ≡ given y = rw (back_list, c) at (parts_given owners b x.windows m' s' back back_parts) in
      let l = edit_leaves owners b x.windows m' s' back y answered in
      let list = l.list ∙ back_list in
      record {
        answered = answered;
        list = list;
        belongs = fine_begins b (own b (table_in count memory)) _ (rw list at l.belongs);
      }

module _ (owners : ℕ) (b : Board) (count : ℕ) (memory summary : List ℕ) where
  -- removing what was added
  pub add_then_remove : (i st en o : ℕ) (x : Edited) → edit_answer owners b count memory summary (add i st en o) ≡ given x →
      GivesBack owners b count memory x.windows
      (edit_windows owners b count memory summary (add i st en o)) (edit_summary owners b count memory summary (add i st en o)) (remove i)
  add_then_remove i st en o x e = edit_undone owners b count memory summary (add i st en o) x e

  -- adding what was removed
  pub remove_then_add : (i : ℕ) (x : Edited) → edit_answer owners b count memory summary (remove i) ≡ given x →
      GivesBack owners b count memory x.windows
      (edit_windows owners b count memory summary (remove i)) (edit_summary owners b count memory summary (remove i))
      (add i (get_or (table_in count memory) (3 * i) 0) (get_or (table_in count memory) (3 * i + 1) 0) (get_or (table_in count memory) (3 * i + 2) 0))
  remove_then_add i x e = edit_undone owners b count memory summary (remove i) x e

  -- moving a window back to its old start and end
  pub move_back : (i st en : ℕ) (x : Edited) → edit_answer owners b count memory summary (move i st en) ≡ given x →
      GivesBack owners b count memory x.windows
      (edit_windows owners b count memory summary (move i st en)) (edit_summary owners b count memory summary (move i st en))
      (move i (get_or (table_in count memory) (3 * i) 0) (get_or (table_in count memory) (3 * i + 1) 0))
  move_back i st en x e = edit_undone owners b count memory summary (move i st en) x e

-- ---- an edit of another owner's window leaves the asked owner's summary as it was

-- whose window an edit is about
abbrev pub owner_of : Edit → List ℕ → ℕ
owner_of (move i s e) l = get_or l (3 * i + 2) 0
owner_of (add i s e o) l = o
owner_of (remove i) l = get_or l (3 * i + 2) 0

for_append : (o : ℕ) (v w : List Owned) → windows_for o (v ++ w) ≡ windows_for o v ++ windows_for o w
unfolding windows_for
for_append o [] w = refl
for_append o (x ∷ v) w = rw (for_append o v w) (go (eqb x.owner o))
  where
    go : (t : Bool) → cond t (x.window.start ∷ x.window.end ∷ (windows_for o v ++ windows_for o w)) (windows_for o v ++ windows_for o w)
        ≡ cond t (x.window.start ∷ x.window.end ∷ windows_for o v) (windows_for o v) ++ windows_for o w
    go true = refl
    go false = refl

module _ (b : Board) where
  own_append : (n : ℕ) (l r : List ℕ) → length l ≡ 3 * n → own b (l ++ r) ≡ own b l ++ own b r
  own_append n l r e =
      ap (windows_for b.owner) (pieces_append Owned 3 owned (omega arith) n l r e) ∙ for_append b.owner (owned_of l) (owned_of r)

  own_other : (s e o : ℕ) → o ≢ b.owner → own b (s ∷ e ∷ o ∷ []) ≡ []
  unfolding windows_for pieces pieces_from
  own_other s e o u = rw (ne_eqb o b.owner u)

  -- where none of the owner's windows come
  splice_own : (i gone n : ℕ) (come l : List ℕ) → 3 * i ≤ length l → length come ≡ 3 * n → own b come ≡ [] →
      own b (spliced i gone come l) ≡ own b (take (3 * i) l) ++ own b (drop (3 * (i + gone)) l)
  splice_own i gone n come l h e not_own =
      let f = front i l h in
      let both : length (take (3 * i) l ++ come) ≡ 3 * (i + n) = omega (arith, length-append (take (3 * i) l) come, f, e) in
      own_append (i + n) (take (3 * i) l ++ come) (drop (3 * (i + gone)) l) both ∙ rw (own_append i (take (3 * i) l) come f, not_own, append-nil)

  pub own_kept : (edit : Edit) (count : ℕ) (l : List ℕ) → length l ≡ 3 * count → Allowed edit count → owner_of edit l ≢ b.owner →
      own b (edited edit l) ≡ own b l
  unfolding edited windows_for pieces pieces_from
  own_kept (move i s e) count l n h u =
      let o : ℕ = get_or l (3 * i + 2) 0 in
      let same = splice_own i 1 1 (numbers_at l i) l (omega arith) (omega arith) (own_other (get_or l (3 * i) 0) (get_or l (3 * i + 1) 0) o u) in
      splice_own i 1 1 (s ∷ e ∷ o ∷ []) l (omega arith) (omega arith) (own_other s e o u) ∙ sym same ∙ ap (own b) (splice_same i l (omega arith))
  own_kept (add i s e o) count l n h u =
      splice_own i 0 1 (s ∷ e ∷ o ∷ []) l (omega arith) (omega arith) (own_other s e o u)
      ∙ sym (splice_own i 0 0 [] l (omega arith) (omega arith) refl) ∙ ap (own b) (splice_none i l)
  own_kept (remove i) count l n h u =
      let same = splice_own i 1 1 (numbers_at l i) l (omega arith) (omega arith) (own_other (get_or l (3 * i) 0) (get_or l (3 * i + 1) 0) _ u) in
      splice_own i 1 0 [] l (omega arith) (omega arith) refl ∙ sym same ∙ ap (own b) (splice_same i l (omega arith))

pub other_owner : (owners : ℕ) (b : Board) (count : ℕ) (memory summary : List ℕ) (edit : Edit) (x : Edited) →
    edit_answer owners b count memory summary edit ≡ given x → owner_of edit (table_in count memory) ≢ b.owner →
    (own b (edited_list count memory edit) ≡ own b (table_in count memory))
    × (edit_summary owners b count memory summary edit ≡ summary)
    × (x.numbers ≡ length (summary_in b count memory))
other_owner owners b count memory summary edit x e u =
    let g = edit_given owners b count memory summary edit x e in
    let l : List ℕ = table_in count memory in
    let same = own_kept b edit count l (held owners b count memory summary edit x e) g.parts.fitting.allowed u in (
      same,
      g.summary_memory ∙ ap (λ (k : List ℕ). written (summary_of b k) summary) same ∙ begins_written (summary_of b (own b l)) summary g.parts.fitting.ready.belongs,
      g.numbers ∙ ap (λ (k : List ℕ). length (summary_of b k)) same,
    )

-- ---- what of an edit may depend on the other team

-- not the summary, nor how many numbers it has: two edits that are made, whatever else they find, leave the same where the owner has the same windows after them
pub edit_own : (owners : ℕ) (b c : Board) (count n : ℕ) (memory m summary : List ℕ) (edit change : Edit) (x y : Edited) →
    edit_answer owners b count memory summary edit ≡ given x → edit_answer owners c n m summary change ≡ given y →
    Alike b c → own b (edited_list count memory edit) ≡ own c (edited_list n m change) →
    (x.numbers ≡ y.numbers) × (edit_summary owners b count memory summary edit ≡ edit_summary owners c n m summary change)
edit_own owners b c count n memory m summary edit change x y e f alike same =
    let g = edit_given owners b count memory summary edit x e in
    let h = edit_given owners c n m summary change y f in
    let z = summary_same b c (own b (edited_list count memory edit)) (own c (edited_list n m change)) alike.frame alike.lost same in
    (g.numbers ∙ ap length z ∙ sym h.numbers, g.summary_memory ∙ ap (λ (l : List ℕ). written l summary) z ∙ sym h.summary_memory)

-- every refusal of the table that an edit would leave: by its number of windows, at one of them, for an owner that has none left, at a sliver, for an owner
-- that is left no tick
pub data NewRefusal (b : Board) (ws : List ℕ) (windows : ℕ) : ℕ → ℕ → Type 0 where
  too_few : windows ≡ 0 → NewRefusal b ws windows 1 0
  too_many : most_windows < windows → NewRefusal b ws windows 1 0
  new_window : (i : ℕ) → i < windows → NewRefusal b ws windows 3 i
  new_absent : own b ws ≡ [] → NewRefusal b ws windows 1 0
  new_sliver : (i : ℕ) → i < windows → NewRefusal b ws windows 12 i
  new_loss : own b ws ≢ [] → own_left b ws ≡ [] → NewRefusal b ws windows 13 0

-- the table as it is has no fault, and the summary is not what a fresh making writes
pub record Fourteen (owners : ℕ) (b : Board) (count : ℕ) (memory summary : List ℕ) : Type 0 where
  pub counted : 3 * count ≤ length memory
  pub before : shared_fault owners b (table_in count memory) ≡ fine
  pub stale : begins (summary_in b count memory) summary ≡ false

-- every refusal of an edit, and which check gives it, those before it passed: of the table as it is, the summary, the index, the table as it would be, room
-- for either
module _ (owners : ℕ) (b : Board) (count : ℕ) (memory summary : List ℕ) (edit : Edit) where
  pub data EditRefusal : ℕ → ℕ → Type 0 where
    short_memory : length memory < 3 * count → EditRefusal 1 0
    old_table : {n p : ℕ} → 3 * count ≤ length memory → shared_fault owners b (table_in count memory) ≡ fault n p → WholeRefusal count n p → EditRefusal n p
    old_absent : 3 * count ≤ length memory → shared_fault owners b (table_in count memory) ≡ fault 1 0 → own b (table_in count memory) ≡ [] → EditRefusal 1 0
    old_loss : 3 * count ≤ length memory → shared_fault owners b (table_in count memory) ≡ fault 13 0 → Cause b (own b (table_in count memory)) → EditRefusal 13 0
    not_its_summary : Fourteen owners b count memory summary → EditRefusal 14 0
    absent_index : Ready owners b count memory summary → (Allowed edit count → ⊥) → EditRefusal 7 0
    new_table : {n p : ℕ} → Ready owners b count memory summary → Allowed edit count → shared_fault owners b (edited_list count memory edit) ≡ fault n p →
        NewRefusal b (edited_list count memory edit) (count_after edit count) n p → EditRefusal n p
    no_room : Fitting owners b count memory summary edit → length memory < 3 * count_after edit count → EditRefusal 8 (3 * count_after edit count)
    no_summary_room : Fitting owners b count memory summary edit → 3 * count_after edit count ≤ length memory → length summary < length (edited_summary b count memory edit) →
        EditRefusal 8 (length (edited_summary b count memory edit))

-- the refusal of a list for an owner: one that may depend on every team, that the owner has no window there, or one of 13's causes
data SharedRefusal (b : Board) (ws : List ℕ) (n p : ℕ) : Type 0 where
  by_teams : WholeRefusal (length (owned_of ws)) n p → SharedRefusal b ws n p
  by_absence : own b ws ≡ [] → fault 1 0 ≡ fault n p → SharedRefusal b ws n p
  by_loss : Cause b (own b ws) → fault 13 0 ≡ fault n p → SharedRefusal b ws n p

shared_refusal : (owners : ℕ) (b : Board) (ws : List ℕ) (n p : ℕ) → shared_fault owners b ws ≡ fault n p → SharedRefusal b ws n p
unfolding shared_fault teams_fault absent_owner_fault
shared_refusal owners b ws n p = go (whole_fault owners b ws) refl
  where
    slivers : whole_fault owners b ws ≡ fine → (g : Fault) → sliver_fault b ws ≡ g → (g or_else lost_fault b (own b ws)) ≡ fault n p → SharedRefusal b ws n p
    slivers e (fault m q) s f = by_teams (whole_refusal owners b ws n p (rw (e, s) f))
    slivers e fine s f = let z = lost_thirteen b (own b ws) n p f in by_loss ((lost_exactly b (own b ws)).0 (f ∙ sym z)) z

    absent : whole_fault owners b ws ≡ fine → (t : Bool) → eqb (length (own b ws)) 0 ≡ t → (fault_if t 1 0 or_else sliver_fault b ws or_else lost_fault b (own b ws)) ≡ fault n p →
        SharedRefusal b ws n p
    absent e true z f = by_absence (none_listed (own b ws) (eqb-true (length (own b ws)) 0 z)) f
    absent e false z f = slivers e (sliver_fault b ws) refl f

    go : (g : Fault) → whole_fault owners b ws ≡ g → (g or_else fault_if (eqb (length (own b ws)) 0) 1 0 or_else sliver_fault b ws or_else lost_fault b (own b ws)) ≡ fault n p →
        SharedRefusal b ws n p
    go (fault m q) e f = by_teams (whole_refusal owners b ws n p (rw e f))
    go fine e f = absent e (eqb (length (own b ws)) 0) refl f

-- the shortest window of a board whose list has no sliver is in its range
sliver_ranged : (b : Board) (ws : List ℕ) → sliver_fault b ws ≡ fine → shortest_fault b ≡ fine
unfolding sliver_fault
sliver_ranged b ws f = (or_else_fine (shortest_fault b) (fault_at 12 (first_sliver b (owned_of ws))) f).0

-- and so are its rule and its lost ticks, where the owner is left a tick
lost_ruled : (b : Board) (mine : List ℕ) → lost_fault b mine ≡ fine → rule_fault b ≡ fine
unfolding lost_fault
lost_ruled b mine f = (or_else_fine (rule_fault b) _ f).0

index_refused : (edit : Edit) (count n p : ℕ) → index_fault edit count ≡ fault n p → (fault 7 0 ≡ fault n p) × (Allowed edit count → ⊥)
unfolding index_fault
index_refused edit count n p f = (seven edit f, λ h. fault_not_fine (sym f ∙ allowed_fine edit count h))
  where
    if_seven : (t : Bool) → fault_if t 7 0 ≡ fault n p → fault 7 0 ≡ fault n p
    if_seven true z = z
    if_seven false z = absurd (fault_not_fine (sym z))

    seven : (edit : Edit) → index_fault edit count ≡ fault n p → fault 7 0 ≡ fault n p
    seven (move i s e) z = if_seven (leb count i) z
    seven (add i s e o) z = if_seven (ltb count i) z
    seven (remove i) z = if_seven (leb count i) z

absent_fault_lem : (edit : Edit) (count : ℕ) → (Allowed edit count → ⊥) → index_fault edit count ≡ fault 7 0
absent_fault_lem edit count u = go (index_fault edit count) refl
  where
    go : (f : Fault) → index_fault edit count ≡ f → f ≡ fault 7 0
    go fine e = absurd (u (index_allowed edit count e))
    go (fault n p) e = sym (index_refused edit count n p e).0

-- of a board without a fault, and a list of so many windows in threes, no other refusal is left
module _ (owners : ℕ) (b : Board) (ws : List ℕ) (windows : ℕ)
    (framed : frame_fault b ≡ fine) (ranged : shortest_fault b ≡ fine) (by-rule-fine : rule_fault b ≡ fine) (long : length ws ≡ 3 * windows) where
  count_read : length (owned_of ws) ≡ windows
  count_read = pieces_length Owned 3 owned ws ∙ omega (arith, long)

  new_refusal : (n p : ℕ) → shared_fault owners b ws ≡ fault n p → NewRefusal b ws windows n p
  unfolding shared_fault whole_fault owned_list_fault owned_fault bad_owned absent_owner_fault sliver_fault first_sliver lost_fault
  new_refusal n p f =
      let threes : length ws % 3 ≡ 0 = omega (arith, long) in
      counted (ltb most_windows (length ws / 3)) refl (eqb (length ws) 0) refl (rw (whole_count 3 most_windows ws threes, framed, ranged, by-rule-fine) at f)
    where
      is : {m q : ℕ} → NewRefusal b ws windows m q → fault m q ≡ fault n p → NewRefusal b ws windows n p
      is {m} {q} r e = let x : m ≡ n = cc in let y : q ≡ p = cc in rw (← x, ← y) r

      short : Option ℕ
      short = first (λ i. sliver b (owned_at (owned_of ws) i)) (length (owned_of ws))

      none_left : Bool
      none_left = eqb (length (own_left b ws)) 0

      loss : own b ws ≢ [] → (t : Bool) → none_left ≡ t → fault_if t 13 0 ≡ fault n p → NewRefusal b ws windows n p
      loss u true z e = is (new_loss u (none_listed (own_left b ws) (eqb-true (length (own_left b ws)) 0 z))) e
      loss u false z e = absurd (fault_not_fine (sym e))

      slivered : own b ws ≢ [] → (o : Option ℕ) → short ≡ o → (fault_at 12 o or_else fault_if none_left 13 0) ≡ fault n p → NewRefusal b ws windows n p
      slivered u none z e = loss u none_left refl e
      slivered u (some i) z e =
          let s = first_some (λ j. sliver b (owned_at (owned_of ws) j)) (length (owned_of ws)) i z in
          is (new_sliver i (omega (arith, s.0, count_read))) e

      absent : (t : Bool) → eqb (length (own b ws)) 0 ≡ t → (fault_if t 1 0 or_else fault_at 12 short or_else fault_if none_left 13 0) ≡ fault n p → NewRefusal b ws windows n p
      absent true z e = is (new_absent (none_listed (own b ws) (eqb-true (length (own b ws)) 0 z))) e
      absent false z e = slivered (λ w. eqb-false (length (own b ws)) 0 z (ap length w)) short refl e

      bad : Option ℕ
      bad = first (λ i. not (owned_legal owners b (owned_of ws) i)) (length (owned_of ws))

      ruled : (o : Option ℕ) → bad ≡ o → (fault_at 3 o or_else fault_if (eqb (length (own b ws)) 0) 1 0 or_else fault_at 12 short or_else fault_if none_left 13 0) ≡ fault n p →
          NewRefusal b ws windows n p
      ruled none z e = absent (eqb (length (own b ws)) 0) refl e
      ruled (some i) z e =
          let s = first_some (λ j. not (owned_legal owners b (owned_of ws) j)) (length (owned_of ws)) i z in
          is (new_window i (omega (arith, s.0, count_read))) e

      counted : (t : Bool) → ltb most_windows (length ws / 3) ≡ t → (u : Bool) → eqb (length ws) 0 ≡ u →
          ((fault_if (t || u) 1 0 or_else fault_at 3 bad) or_else fault_if (eqb (length (own b ws)) 0) 1 0 or_else fault_at 12 short or_else fault_if none_left 13 0) ≡ fault n p →
          NewRefusal b ws windows n p
      counted true z u w e = is (too_many (omega (arith, ltb-true most_windows (length ws / 3) z, long))) e
      counted false z true w e = is (too_few (omega (arith, eqb-true (length ws) 0 w, long))) e
      counted false z false w e = ruled bad refl e

module _ (owners : ℕ) (b : Board) (count : ℕ) (memory : List ℕ) (edit : Edit) where
  -- the table that an edit would leave, once that before it has no fault and the index is there
  after_refusal : 3 * count ≤ length memory → shared_fault owners b (table_in count memory) ≡ fine → Allowed edit count →
      (n p : ℕ) → shared_fault owners b (edited_list count memory edit) ≡ fault n p → NewRefusal b (edited_list count memory edit) (count_after edit count) n p
  after_refusal counted before allowed n p f =
      let old : List ℕ = table_in count memory in
      let parts = shared_parts owners b old before in
      new_refusal owners b (edited_list count memory edit) (count_after edit count) (whole owners b old parts.0).framed (sliver_ranged b old parts.2) (lost_ruled b (own b old) parts.3)
      (left_long edit count memory counted allowed) n p f

module _ (owners : ℕ) (b : Board) (count : ℕ) (memory summary : List ℕ) (edit : Edit) (n p : ℕ) where
  abbrev R : Type 0
  R = EditRefusal owners b count memory summary edit n p

  is : {m q : ℕ} → EditRefusal owners b count memory summary edit m q → fault m q ≡ fault n p → R
  is {m} {q} r e = let x : m ≡ n = cc in let y : q ≡ p = cc in rw (← x, ← y) r

  pub edit_refusal : edit_answer owners b count memory summary edit ≡ refused n p → EditRefusal owners b count memory summary edit n p
  unfolding edit_answer edit_fault count_fault summary_fault room_fault
  edit_refusal f = counted (ltb (length memory) (3 * count)) refl (unless_refused_lem (edit_fault owners b count memory summary edit) _ n p f)
    where
      old : List ℕ
      old = table_in count memory

      new : List ℕ
      new = edited_list count memory edit

      numbers : ℕ
      numbers = length (edited_summary b count memory edit)

      Counted : Type 0
      Counted = 3 * count ≤ length memory

      Made : Type 0
      Made = Ready owners b count memory summary

      Fits : Type 0
      Fits = Fitting owners b count memory summary edit

      long : Fits → length new ≡ 3 * count_after edit count
      long c = left_long edit count memory c.ready.counted c.allowed

      last : Fault
      last = fault_if (ltb (length summary) numbers) 8 numbers

      summarized : Fits → length new ≤ length memory → (t : Bool) → ltb (length summary) numbers ≡ t → fault_if t 8 numbers ≡ fault n p → R
      summarized c h true z e = is (no_summary_room c (omega (arith, long c)) (ltb-true (length summary) numbers z)) e
      summarized c h false z e = absurd (fault_not_fine (sym e))

      then : Fault
      then = fault_if (ltb (length memory) (length new)) 8 (length new) or_else last

      roomy : Fits → (t : Bool) → ltb (length memory) (length new) ≡ t → (fault_if t 8 (length new) or_else last) ≡ fault n p → R
      roomy c true z e = is (no_room c (omega (arith, ltb-true (length memory) (length new) z, long c))) (ap (fault 8) (sym (long c)) ∙ e)
      roomy c false z e = summarized c (ltb-false (length memory) (length new) z) (ltb (length summary) numbers) refl e

      after : Made → Allowed edit count → (g : Fault) → shared_fault owners b new ≡ g → (g or_else then) ≡ fault n p → R
      after r a fine z e = roomy (record { ready = r; allowed = a; after = z }) (ltb (length memory) (length new)) refl e
      after r a (fault m q) z e = new_table r a (z ∙ e) (after_refusal owners b count memory edit r.counted r.before a n p (z ∙ e))

      indexed : Made → (g : Fault) → index_fault edit count ≡ g → (g or_else shared_fault owners b new or_else then) ≡ fault n p → R
      indexed r fine z e = after r (index_allowed edit count z) (shared_fault owners b new) refl e
      indexed r (fault m q) z e = let i = index_refused edit count n p (z ∙ e) in is (absent_index r i.1) i.0

      belongs : Counted → shared_fault owners b old ≡ fine → (t : Bool) → begins (summary_of b (own b old)) summary ≡ t →
          (fault_if (not t) 14 0 or_else index_fault edit count or_else shared_fault owners b new or_else then) ≡ fault n p → R
      belongs c o true z e = indexed (record { counted = c; before = o; belongs = z }) (index_fault edit count) refl e
      belongs c o false z e = is (not_its_summary (record { counted = c; before = o; stale = z })) e

      fourteen : Fault
      fourteen = fault_if (not (begins (summary_of b (own b old)) summary)) 14 0

      later : Fault
      later = fourteen or_else index_fault edit count or_else shared_fault owners b new or_else then

      before : Counted → (g : Fault) → shared_fault owners b old ≡ g → (g or_else later) ≡ fault n p → R
      before c fine z e = belongs c z (begins (summary_of b (own b old)) summary) refl e
      before c (fault m q) z e =
          let many : length (owned_of old) ≡ count = pieces_length Owned 3 owned old ∙ omega (arith, length-take-le (3 * count) memory c) in
          elim (shared_refusal owners b old n p (z ∙ e)) [
            | by_teams r ↦ old_table c (z ∙ e) (rw many at r)
            | by_absence r s ↦ is (old_absent c (z ∙ e ∙ sym s) r) s
            | by_loss r s ↦ is (old_loss c (z ∙ e ∙ sym s) r) s
          ]

      counted : (t : Bool) → ltb (length memory) (3 * count) ≡ t → (fault_if t 1 0 or_else shared_fault owners b old or_else later) ≡ fault n p → R
      counted true z e = is (short_memory (ltb-true (length memory) (3 * count) z)) e
      counted false z e = before (ltb-false (length memory) (3 * count) z) (shared_fault owners b old) refl e

-- and each is given where it is told to be: these are exactly the refusals of an edit
module _ (owners : ℕ) (b : Board) (count : ℕ) (memory summary : List ℕ) (edit : Edit) where
  abbrev A : Answer Edited
  A = edit_answer owners b count memory summary edit

  old_refused : (n p : ℕ) → 3 * count ≤ length memory → shared_fault owners b (table_in count memory) ≡ fault n p → A ≡ refused n p
  unfolding edit_answer edit_fault count_fault
  old_refused n p c f = rw (le-ltb (length memory) (3 * count) c, f)

  fitting_fault : Fitting owners b count memory summary edit →
      edit_fault owners b count memory summary edit
      ≡ (room_fault (3 * count_after edit count) (length memory) or_else room_fault (length (edited_summary b count memory edit)) (length summary))
  fitting_fault c = indexed_fault owners b count memory summary edit c.ready c.allowed ∙ rw (c.after, left_long edit count memory c.ready.counted c.allowed)

  pub refusal_edit : (n p : ℕ) → EditRefusal owners b count memory summary edit n p → edit_answer owners b count memory summary edit ≡ refused n p
  unfolding edit_answer edit_fault count_fault summary_fault
  refusal_edit n p (short_memory h) = rw (lt-ltb (length memory) (3 * count) h)
  refusal_edit n p (old_table c f r) = old_refused n p c f
  refusal_edit n p (old_absent c f z) = old_refused 1 0 c f
  refusal_edit n p (old_loss c f z) = old_refused 13 0 c f
  refusal_edit n p (not_its_summary f) = rw (le-ltb (length memory) (3 * count) f.counted, f.before, f.stale)
  refusal_edit n p (absent_index r u) = rw (ready_fault_lem owners b count memory summary edit r, absent_fault_lem edit count u)
  refusal_edit n p (new_table r a f x) = new_refused owners b count memory summary edit r a n p f
  refusal_edit n p (no_room c h) = rw (fitting_fault c, room_fault_lem (3 * count_after edit count) (length memory) h)
  refusal_edit n p (no_summary_room c h k) =
      rw (
        fitting_fault c,
        fine_room (3 * count_after edit count) (length memory) h,
        room_fault_lem (length (edited_summary b count memory edit)) (length summary) k,
      )

-- ---- 14, and 7

-- the other checks' numbers
whole_number : {windows : ℕ} (n p : ℕ) → WholeRefusal windows n p → (n ≢ 14) × (n ≢ 7)
whole_number n p by_count = (λ z. omega arith, λ z. omega arith)
whole_number n p by_frame = (λ z. omega arith, λ z. omega arith)
whole_number n p (by_window i h) = (λ z. omega arith, λ z. omega arith)
whole_number n p by_range = (λ z. omega arith, λ z. omega arith)
whole_number n p (by_sliver i h) = (λ z. omega arith, λ z. omega arith)

new_number : {b : Board} {ws : List ℕ} {windows : ℕ} (n p : ℕ) → NewRefusal b ws windows n p → (n ≢ 14) × (n ≢ 7)
new_number n p (too_few h) = (λ z. omega arith, λ z. omega arith)
new_number n p (too_many h) = (λ z. omega arith, λ z. omega arith)
new_number n p (new_window i h) = (λ z. omega arith, λ z. omega arith)
new_number n p (new_absent h) = (λ z. omega arith, λ z. omega arith)
new_number n p (new_sliver i h) = (λ z. omega arith, λ z. omega arith)
new_number n p (new_loss u h) = (λ z. omega arith, λ z. omega arith)

module _ (owners : ℕ) (b : Board) (count : ℕ) (memory summary : List ℕ) (edit : Edit) where
  -- the table as it is has no fault, the summary is its own, and the index is not there
  abbrev pub Absent : Type 0
  Absent = Ready owners b count memory summary × (Allowed edit count → ⊥)

  -- no refusal but one is a 14, and none but one a 7
  only_fourteen : (n p : ℕ) → EditRefusal owners b count memory summary edit n p → n ≡ 14 → Fourteen owners b count memory summary × (p ≡ 0)
  only_fourteen n p (short_memory h) z = absurd (omega arith)
  only_fourteen n p (old_table c f r) z = absurd ((whole_number n p r).0 z)
  only_fourteen n p (old_absent c f h) z = absurd (omega arith)
  only_fourteen n p (old_loss c f h) z = absurd (omega arith)
  only_fourteen n p (not_its_summary h) z = (h, refl)
  only_fourteen n p (absent_index r h) z = absurd (omega arith)
  only_fourteen n p (new_table r a f x) z = absurd ((new_number n p x).0 z)
  only_fourteen n p (no_room c h) z = absurd (omega arith)
  only_fourteen n p (no_summary_room c h k) z = absurd (omega arith)

  only_seven : (n p : ℕ) → EditRefusal owners b count memory summary edit n p → n ≡ 7 → Absent × (p ≡ 0)
  only_seven n p (short_memory h) z = absurd (omega arith)
  only_seven n p (old_table c f r) z = absurd ((whole_number n p r).1 z)
  only_seven n p (old_absent c f h) z = absurd (omega arith)
  only_seven n p (old_loss c f h) z = absurd (omega arith)
  only_seven n p (not_its_summary h) z = absurd (omega arith)
  only_seven n p (absent_index r h) z = ((r, h), refl)
  only_seven n p (new_table r a f x) z = absurd ((new_number n p x).1 z)
  only_seven n p (no_room c h) z = absurd (omega arith)
  only_seven n p (no_summary_room c h k) z = absurd (omega arith)

  -- 14 is given exactly then, at place 0, whatever the edit
  pub exactly_fourteen : (p : ℕ) → (edit_answer owners b count memory summary edit ≡ refused 14 p) ↔ (Fourteen owners b count memory summary × (p ≡ 0))
  exactly_fourteen p = (λ e. only_fourteen 14 p (edit_refusal owners b count memory summary edit 14 p e) refl, so)
    where
      so : Fourteen owners b count memory summary × (p ≡ 0) → edit_answer owners b count memory summary edit ≡ refused 14 p
      so (f, z) = rw z (refusal_edit owners b count memory summary edit 14 0 (not_its_summary f))

  -- and so is 7
  pub exactly_seven : (p : ℕ) → (edit_answer owners b count memory summary edit ≡ refused 7 p) ↔ (Absent × (p ≡ 0))
  exactly_seven p = (λ e. only_seven 7 p (edit_refusal owners b count memory summary edit 7 p e) refl, so)
    where
      so : Absent × (p ≡ 0) → edit_answer owners b count memory summary edit ≡ refused 7 p
      so (u, z) = rw z (refusal_edit owners b count memory summary edit 7 0 (absent_index u.0 u.1))

-- so, once the tables as they are have no fault, whether it is given depends on the frame, the rule, the lost ticks, the owner's windows and the
-- summary, and on nothing else
pub fourteen_own : (owners : ℕ) (b c : Board) (count n : ℕ) (memory m summary : List ℕ) (edit change : Edit) →
    3 * count ≤ length memory → shared_fault owners b (table_in count memory) ≡ fine → 3 * n ≤ length m → shared_fault owners c (table_in n m) ≡ fine →
    Alike b c → own b (table_in count memory) ≡ own c (table_in n m) →
    (edit_answer owners b count memory summary edit ≡ refused 14 0) ↔ (edit_answer owners c n m summary change ≡ refused 14 0)
fourteen_own owners b c count n memory m summary edit change k e j f alike same =
    let z = summary_same b c (own b (table_in count memory)) (own c (table_in n m)) alike.frame alike.lost same in
    let to = exactly_fourteen owners b count memory summary edit 0 in
    let fro = exactly_fourteen owners c n m summary change 0 in (
      λ a. fro.1 (record { counted = j; before = f; stale = rw (← z) (to.0 a).0.stale }, refl),
      λ a. to.1 (record { counted = k; before = e; stale = rw z (fro.0 a).0.stale }, refl),
    )

-- ---- the list of what may depend on the other team, once the tables as they are have no fault: the number of windows that is answered, and these refusals

pub data TeamsRefusal (windows : ℕ) : ℕ → ℕ → Type 0 where
  by_index : TeamsRefusal windows 7 0
  by_number : TeamsRefusal windows 1 0
  by_rule : (i : ℕ) → i < windows → TeamsRefusal windows 3 i
  by_short : (i : ℕ) → i < windows → TeamsRefusal windows 12 i
  by_room : TeamsRefusal windows 8 (3 * windows)

pub record EditTold (owners : ℕ) (b : Board) (count : ℕ) (memory summary : List ℕ) (edit : Edit) : Type 0 where
  pub number : ℕ
  pub place : ℕ
  pub is : TeamsRefusal (count_after edit count) number place
  pub answered : edit_answer owners b count memory summary edit ≡ refused number place

-- what is refused for an owner by its own windows and the board: 1 and 13
abbrev owned_faults : Board → List ℕ → Fault
owned_faults b ws = absent_owner_fault b ws or_else lost_fault b (own b ws)

absent_own : (b : Board) (ws : List ℕ) → own b ws ≡ [] → owned_faults b ws ≡ fault 1 0
unfolding absent_owner_fault
absent_own b ws h = rw h

present_own : (b : Board) (ws : List ℕ) → own b ws ≢ [] → owned_faults b ws ≡ lost_fault b (own b ws)
unfolding absent_owner_fault
present_own b ws u = rw (ne_eqb (length (own b ws)) 0 (λ z. u (none_listed (own b ws) z)))

-- a list without a fault has a window of the owner, which is left a tick
never_own : (owners : ℕ) (b : Board) (ws : List ℕ) → shared_fault owners b ws ≡ fine → owned_faults b ws ≡ fine
never_own owners b ws f = let p = shared_parts owners b ws f in rw (p.1, p.3)

module _ (owners : ℕ) (b : Board) (count : ℕ) (memory summary : List ℕ) (edit : Edit) where
  -- an edit that none of these refuses: the owner has no window left, or no tick, or only room for the summary is asked
  pub data Untold : Type 0 where
    still_owned : (n p : ℕ) → owned_faults b (edited_list count memory edit) ≡ fault n p → edit_answer owners b count memory summary edit ≡ refused n p → Untold
    still_legal : shared_fault owners b (edited_list count memory edit) ≡ fine →
        edit_fault owners b count memory summary edit ≡ room_fault (length (edited_summary b count memory edit)) (length summary) → Untold

  told_or_not : Ready owners b count memory summary → EditTold owners b count memory summary edit ⊎ Untold
  unfolding edit_answer
  told_or_not ready = indexed (index_fault edit count) refl
    where
      T : Type 0
      T = EditTold owners b count memory summary edit ⊎ Untold

      new : List ℕ
      new = edited_list count memory edit

      last : Fault
      last = room_fault (length (edited_summary b count memory edit)) (length summary)

      later : Fault
      later = index_fault edit count or_else shared_fault owners b new or_else room_fault (length new) (length memory) or_else last

      behind : edit_fault owners b count memory summary edit ≡ later
      behind = ready_fault_lem owners b count memory summary edit ready

      so : {n p : ℕ} → TeamsRefusal (count_after edit count) n p → later ≡ fault n p → EditTold owners b count memory summary edit
      so {n} {p} r e = record { number = n; place = p; is = r; answered = rw (behind ∙ e) }

      new_told : (n p : ℕ) → NewRefusal b new (count_after edit count) n p → later ≡ fault n p → T
      new_told n p (too_few h) e = inl (so by_number e)
      new_told n p (too_many h) e = inl (so by_number e)
      new_told n p (new_window i h) e = inl (so (by_rule i h) e)
      new_told n p (new_absent h) e = inr (still_owned 1 0 (absent_own b new h) (rw (behind ∙ e)))
      new_told n p (new_sliver i h) e = inl (so (by_short i h) e)
      new_told n p (new_loss u h) e = inr (still_owned 13 0 (present_own b new u ∙ (lost_exactly b (own b new)).1 (none_left h)) (rw (behind ∙ e)))

      roomy : index_fault edit count ≡ fine → shared_fault owners b new ≡ fine → (t : Bool) → ltb (length memory) (length new) ≡ t → T
      roomy i a true z =
          let long = left_long edit count memory ready.counted (index_allowed edit count i) in
          let full = room_fault_lem (length new) (length memory) (ltb-true (length memory) (length new) z) in
          let e : later ≡ fault 8 (length new) = rw (i, a, full) in
          inl (so by_room (e ∙ ap (fault 8) long))
      roomy i a false z = inr (still_legal a (behind ∙ rw (i, a, fine_room (length new) (length memory) (ltb-false (length memory) (length new) z))))

      after : index_fault edit count ≡ fine → (g : Fault) → shared_fault owners b new ≡ g → T
      after i fine z = roomy i z (ltb (length memory) (length new)) refl
      after i (fault m q) z = new_told m q (after_refusal owners b count memory edit ready.counted ready.before (index_allowed edit count i) m q z) (rw (i, z))

      indexed : (g : Fault) → index_fault edit count ≡ g → T
      indexed fine z = after z (shared_fault owners b new) refl
      indexed (fault m q) z = let r = index_refused edit count m q z in inl (so by_index (rw (z, ← r.0)))

-- what is answered but for the number of windows
abbrev pub numbers_in : Answer Edited → Answer ℕ
numbers_in (given x) = given x.numbers
numbers_in (refused n p) = refused n p

numbers_unless : (f : Fault) (x : Edited) → numbers_in (unless f x) ≡ unless f x.numbers
numbers_unless fine x = refl
numbers_unless (fault n p) x = refl

-- nothing else does: of two edits on boards that are alike and with one summary, whose owners have the same windows before and the same after, and that are answered
-- differently or leave different summaries, one is refused so
module _ (owners : ℕ) (b c : Board) (count k : ℕ) (memory m summary : List ℕ) (edit change : Edit) where
  abbrev pub Same : Type 0
  Same = (numbers_in (edit_answer owners b count memory summary edit) ≡ numbers_in (edit_answer owners c k m summary change))
      × (edit_summary owners b count memory summary edit ≡ edit_summary owners c k m summary change)

  refused_same : (n p : ℕ) → edit_answer owners b count memory summary edit ≡ refused n p → edit_answer owners c k m summary change ≡ refused n p → Same
  refused_same n p e f = (
    ap numbers_in (e ∙ sym f),
    (edit_kept n p owners b count memory summary edit e).1 ∙ sym (edit_kept n p owners c k m summary change f).1,
  )

  module _ (alike : Alike b c) (after : own b (edited_list count memory edit) ≡ own c (edited_list k m change)) where
    faults : owned_faults b (edited_list count memory edit) ≡ owned_faults c (edited_list k m change)
    faults = own_same b c (edited_list count memory edit) (edited_list k m change) alike after

    both_legal : edit_fault owners b count memory summary edit ≡ room_fault (length (edited_summary b count memory edit)) (length summary) →
        edit_fault owners c k m summary change ≡ room_fault (length (edited_summary c k m change)) (length summary) → Same
    unfolding edit_answer edit_summary
    both_legal e f =
        let z = summary_same b c (own b (edited_list count memory edit)) (own c (edited_list k m change)) alike.frame alike.lost after in
        (rw (e, f, numbers_unless, numbers_unless, z), rw (e, f, z))

    untold_same : Untold owners b count memory summary edit → Untold owners c k m summary change → Same
    untold_same (still_owned n p a e) (still_owned o q d f) =
        let z : fault n p ≡ fault o q = sym a ∙ faults ∙ d in
        let x : o ≡ n = cc in
        let y : q ≡ p = cc in
        refused_same n p e (rw (← x, ← y) f)
    untold_same (still_owned n p a e) (still_legal l f) = absurd (fault_not_fine (sym a ∙ faults ∙ never_own owners c (edited_list k m change) l))
    untold_same (still_legal l e) (still_owned o q d f) = absurd (fault_not_fine (sym d ∙ sym faults ∙ never_own owners b (edited_list count memory edit) l))
    untold_same (still_legal l e) (still_legal g f) = both_legal e f

    pub edit_told_apart : 3 * count ≤ length memory → shared_fault owners b (table_in count memory) ≡ fine →
        3 * k ≤ length m → shared_fault owners c (table_in k m) ≡ fine → own b (table_in count memory) ≡ own c (table_in k m) →
        (Same → ⊥) → EditTold owners b count memory summary edit ⊎ EditTold owners c k m summary change
    edit_told_apart i e j f before differ = go (begins (summary_in b count memory) summary) refl
      where
        stale : begins (summary_in b count memory) summary ≡ begins (summary_in c k m) summary
        stale = ap (λ (l : List ℕ). begins l summary) (summary_same b c (own b (table_in count memory)) (own c (table_in k m)) alike.frame alike.lost before)

        both : EditTold owners b count memory summary edit ⊎ Untold owners b count memory summary edit →
            EditTold owners c k m summary change ⊎ Untold owners c k m summary change →
            EditTold owners b count memory summary edit ⊎ EditTold owners c k m summary change
        both (inl t) y = inl t
        both (inr u) (inl t) = inr t
        both (inr u) (inr v) = absurd (differ (untold_same u v))

        go : (t : Bool) → begins (summary_in b count memory) summary ≡ t → EditTold owners b count memory summary edit ⊎ EditTold owners c k m summary change
        go false z =
            absurd (differ (refused_same 14 0
            ((exactly_fourteen owners b count memory summary edit 0).1 (record { counted = i; before = e; stale = z }, refl))
            ((exactly_fourteen owners c k m summary change 0).1 (record { counted = j; before = f; stale = sym stale ∙ z }, refl))))
        go true z = both (told_or_not owners b count memory summary edit (record { counted = i; before = e; belongs = z }))
            (told_or_not owners c k m summary change (record { counted = j; before = f; belongs = sym stale ∙ z }))
