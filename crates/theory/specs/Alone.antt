-- Document 02, request 4: each team's answers depend on the frame, its own windows, the rule and the lost ticks, and on nothing else once the whole list is
-- legal and has no sliver; a table with one owner is answered as the pairs are. One statement each, over every entry and any number of owners
use Rattle.std.specs.Prelude.{◌≡◌, Bool, true, false, ◌||◌, ◌⊎◌, ltb, eqb, ℤ, length}
use Rattle.std.proofs.Math.Path.{refl, sym, ap}
use Rattle.std.proofs.Common.{◌∙◌, inl, inr}
use Rattle.std.proofs.Math.Bool.{not, and-true, and-false, or-false}
use Rattle.std.proofs.Math.Option.{Option, none, some}
use mathlib.Core.List.{List, [], ◌∷◌, map}
use Prim.Native.Nat.{ℕ, zero, suc, ◌-◌, ◌/◌, ◌%◌, ◌<◌}
use native.Mathlib.Omega.{arith}
use borrow.Author.Tests.{lt-ltb, eq-eqb, ne_eqb}
use Rattle.scope.specs.Numbers.{first, pieces, pieces_from, bad_count}
use Rattle.scope.specs.Limits.{teams, most_frame, most_windows}
use Rattle.scope.specs.Windows.{Board, framed, Window, windows_of, window_at, supplied, supplied_by, window_legal, bad_window}
use Rattle.scope.specs.Answers.{Fault, Fault.fine, Fault.fault, Answer, Answer.given, Answer.refused, fault_if, fault_at, ◌or_else◌}
use Rattle.scope.specs.Answers.{window_list_fault, frame_fault, window_fault, table_fault, shortest_fault, rule_fault, cycle_fault, critical_fault, run_fault}
use Rattle.scope.specs.Answers.{supplied_answer, least_supply_answer, critical_answer, critical_out, delay_answer, outage_answer}
use Rattle.scope.specs.Answers.{margin_answer, verdict_answer, bound_answer, run_answer, run_out}
use Rattle.scope.specs.Plan.{Read, Read.read, Read.bad, or_nine}
use Rattle.scope.specs.Trace.{Stamped, Record, trace_of, timed}
use Rattle.scope.specs.Replay.{Replayed, replay_fault, records_answer, replay_answer}
use Rattle.scope.specs.Shared.{Owned, owned, owned_of, owned_at, windows_for, own, own_left, as_owned, follows, owned_legal, bad_owned, owned_list_fault, owned_fault}
use Rattle.scope.specs.Shared.{whole_fault, absent_owner_fault, sliver, first_sliver, sliver_fault, lost_fault, shared_fault, own_fault, own_answer, own_out, unless_refused, asked_for, kept, records_for, replay_for}
use Rattle.scope.specs.Summary.{summary_of, make_fault, make_answer, make_out, summary_fault, least_from_answer, margins_fault, margins_answer, margins_out}
use Rattle.theory.specs.Numbers.{first_equal, first_some}
use Rattle.theory.specs.Shared.{asked_fine, asked_refused, asked_given}
use Rattle.theory.specs.Answers.{or_else_fine, table_list, table_legal}
use Rattle.theory.specs.Gaps.{fits}
use Rattle.theory.specs.Left.{left_whole}
use Rattle.theory.specs.Slivers.{sliver_twelve, sliver_place, one_tick}

-- ---- entries: functions of a board and a list of windows that refuse what is no table, and of the rest read no more than the frame and the supplied ticks

pub record Entry {R : Type 0} (refusal : ℕ → ℕ → R) (entry : Board → List ℕ → R) : Type 0 where
  pub checks : (b : Board) (ws : List ℕ) (n p : ℕ) → table_fault b ws ≡ fault n p → entry b ws ≡ refusal n p
  pub by_ticks : (b c : Board) (ws vs : List ℕ) → b.frame ≡ c.frame → table_fault b ws ≡ table_fault c vs → supplied_by b ws ≡ supplied_by c vs → entry b ws ≡ entry c vs

pub supplied_same : (b c : Board) (ws : List ℕ) → b.frame ≡ c.frame → b.lost ≡ c.lost → supplied_by b ws ≡ supplied_by c ws
unfolding supplied
supplied_same b c ws e l = rw (e, l)

pub table_same : (b c : Board) (ws : List ℕ) → b.frame ≡ c.frame → table_fault b ws ≡ table_fault c ws
unfolding table_fault frame_fault window_fault bad_window window_legal
table_same b c ws e = ap (λ (P : ℕ). table_fault (framed P) ws) e

-- 1, 2 and 3 are by the frame, and 12 by the shortest window, whatever else a board has
pub whole_same : (owners : ℕ) (b c : Board) (ws : List ℕ) → b.frame ≡ c.frame → whole_fault owners b ws ≡ whole_fault owners c ws
unfolding whole_fault frame_fault owned_fault bad_owned owned_legal
whole_same owners b c ws e = ap (λ (P : ℕ). whole_fault owners (framed P) ws) e

pub sliver_same : (b c : Board) (ws : List ℕ) → b.shortest ≡ c.shortest → sliver_fault b ws ≡ sliver_fault c ws
unfolding sliver_fault shortest_fault first_sliver sliver
sliver_same b c ws e = ap (λ (m : ℕ). sliver_fault (record { frame = 0; owner = 0; shortest = m; rule = 0; lost = 0 }) ws) e

-- boards that differ in nothing but the owner that is asked for and the shortest window
pub record Alike (b c : Board) : Type 0 where
  pub frame : b.frame ≡ c.frame
  pub rule : b.rule ≡ c.rule
  pub lost : b.lost ≡ c.lost

pub itself : (b : Board) → Alike b b
itself b = record { frame = refl; rule = refl; lost = refl }

-- the same windows get the same in equal frames with equal loss
pub windows_same : {R : Type 0} {refusal : ℕ → ℕ → R} {entry : Board → List ℕ → R} → Entry refusal entry →
    (b c : Board) (ws : List ℕ) → b.frame ≡ c.frame → b.lost ≡ c.lost → entry b ws ≡ entry c ws
windows_same is b c ws e l = is.by_ticks b c ws ws e (table_same b c ws e) (supplied_same b c ws e l)

-- as does a summary
pub summary_same : (b c : Board) (ws vs : List ℕ) → b.frame ≡ c.frame → b.lost ≡ c.lost → ws ≡ vs → summary_of b ws ≡ summary_of c vs
unfolding summary_of
summary_same b c ws vs e l same = rw (same, supplied_same b c vs e l, e)

-- who is asked for says whose windows these are
pub own_owner : (b c : Board) (ws : List ℕ) → b.owner ≡ c.owner → own b ws ≡ own c ws
own_owner b c ws e = ap (λ (o : ℕ). windows_for o (owned_of ws)) e

pub supplied_entry : (k : ℕ) → Entry refused (λ b ws. supplied_answer b ws k)
unfolding supplied_answer
supplied_entry k = record { checks = λ b ws n p e. rw e; by_ticks = λ b c ws vs e f s. rw (f, s) }

pub least_supply_entry : (t : ℕ) → Entry refused (λ b ws. least_supply_answer b ws t)
unfolding least_supply_answer
least_supply_entry t = record { checks = λ b ws n p e. rw e; by_ticks = λ b c ws vs e f s. rw (f, s, e) }

pub critical_entry : (room : ℕ) → Entry refused (λ b ws. critical_answer b ws room)
unfolding critical_answer critical_fault
critical_entry room = record { checks = λ b ws n p e. rw e; by_ticks = λ b c ws vs e f s. rw (f, s, e) }

pub critical_out_entry : (out : List ℕ) → Entry (kept out) (λ b ws. critical_out b ws out)
unfolding critical_out critical_fault
critical_out_entry out = record { checks = λ b ws n p e. rw e; by_ticks = λ b c ws vs e f s. rw (f, s, e) }

pub delay_entry : Entry refused (λ b ws. delay_answer b ws)
unfolding delay_answer
delay_entry = record { checks = λ b ws n p e. rw e; by_ticks = λ b c ws vs e f s. rw (f, s, e) }

pub outage_entry : Entry refused (λ b ws. outage_answer b ws)
unfolding outage_answer
outage_entry = record { checks = λ b ws n p e. rw e; by_ticks = λ b c ws vs e f s. rw (f, s, e) }

pub margin_entry : (ts : List ℕ) (t : ℕ) → Entry refused (λ b ws. margin_answer b ws ts t)
unfolding margin_answer
margin_entry ts t = record { checks = λ b ws n p e. rw e; by_ticks = λ b c ws vs e f s. rw (f, s, e) }

pub verdict_entry : (ts : List ℕ) → Entry refused (λ b ws. verdict_answer b ws ts)
unfolding verdict_answer cycle_fault
verdict_entry ts = record { checks = λ b ws n p e. rw e; by_ticks = λ b c ws vs e f s. rw (f, s, e) }

pub bound_entry : (ts : List ℕ) (i : ℕ) → Entry refused (λ b ws. bound_answer b ws ts i)
unfolding bound_answer
bound_entry ts i = record { checks = λ b ws n p e. rw e; by_ticks = λ b c ws vs e f s. rw (f, s, e) }

pub run_entry : (ts : List ℕ) (n : ℕ) (js : List ℕ) (room : ℕ) → Entry refused (λ b ws. run_answer b ws ts n js room)
unfolding run_answer run_fault
run_entry ts n js room = record { checks = λ b ws n p e. rw e; by_ticks = λ b c ws vs e f s. rw (f, s) }

pub run_out_entry : (ts : List ℕ) (n : ℕ) (js out : List ℕ) → Entry (kept out) (λ b ws. run_out b ws ts n js out)
unfolding run_out run_fault
run_out_entry ts n js out = record { checks = λ b ws n p e. rw e; by_ticks = λ b c ws vs e f s. rw (f, s) }

pub make_entry : (room : ℕ) → Entry refused (λ b ws. make_answer b ws room)
unfolding make_answer make_fault summary_of
make_entry room = record { checks = λ b ws n p e. rw e; by_ticks = λ b c ws vs e f s. rw (f, s, e) }

pub make_out_entry : (out : List ℕ) → Entry (kept out) (λ b ws. make_out b ws out)
unfolding make_out make_fault summary_of
make_out_entry out = record { checks = λ b ws n p e. rw e; by_ticks = λ b c ws vs e f s. rw (f, s, e) }

pub least_from_entry : (summary : List ℕ) (t : ℕ) → Entry refused (λ b ws. least_from_answer b ws summary t)
unfolding least_from_answer summary_fault summary_of
least_from_entry summary t = record { checks = λ b ws n p e. rw e; by_ticks = λ b c ws vs e f s. rw (f, s, e) }

pub margins_entry : (summary ts lengths : List ℕ) (room : ℕ) → Entry refused (λ b ws. margins_answer b ws summary ts lengths room)
unfolding margins_answer margins_fault summary_fault summary_of
margins_entry summary ts lengths room = record { checks = λ b ws n p e. rw e; by_ticks = λ b c ws vs e f s. rw (f, s, e) }

pub margins_out_entry : (summary ts lengths : List ℕ) (out : List ℤ) → Entry (kept out) (λ b ws. margins_out b ws summary ts lengths out)
unfolding margins_out margins_fault summary_fault summary_of
margins_out_entry summary ts lengths out = record { checks = λ b ws n p e. rw e; by_ticks = λ b c ws vs e f s. rw (f, s, e) }

pub records_entry : (ts : List ℕ) (rs : List Record) → Entry refused (λ b ws. records_answer b ws ts rs)
unfolding records_answer replay_fault
records_entry ts rs = record { checks = λ b ws n p e. rw e; by_ticks = λ b c ws vs e f s. rw (f, s) }

-- ---- whatever the other team does

-- 1, 2, 3 and 12, which may depend on every team
unfoldable pub teams_fault : ℕ → Board → List ℕ → Fault
teams_fault owners b ws = whole_fault owners b ws or_else sliver_fault b ws

-- of a list without one of them only 1 for an absent owner and 13 are left
shared_own : (owners : ℕ) (b : Board) (ws : List ℕ) → teams_fault owners b ws ≡ fine → shared_fault owners b ws ≡ (absent_owner_fault b ws or_else lost_fault b (own b ws))
unfolding teams_fault shared_fault
shared_own owners b ws e = let p = or_else_fine (whole_fault owners b ws) (sliver_fault b ws) e in rw (p.0, p.1)

pub absent_same : (b c : Board) (ws vs : List ℕ) → own b ws ≡ own c vs → absent_owner_fault b ws ≡ absent_owner_fault c vs
unfolding absent_owner_fault
absent_same b c ws vs same = ap (λ (l : List ℕ). fault_if (eqb (length l) 0) 1 0) same

-- 13 is by an owner's windows, the rule and the lost ticks alone
pub lost_same : (b c : Board) (mine : List ℕ) → b.rule ≡ c.rule → b.lost ≡ c.lost → lost_fault b mine ≡ lost_fault c mine
unfolding lost_fault rule_fault
lost_same b c mine r e = rw (r, e)

pub own_same : (b c : Board) (ws vs : List ℕ) → Alike b c → own b ws ≡ own c vs →
    (absent_owner_fault b ws or_else lost_fault b (own b ws)) ≡ (absent_owner_fault c vs or_else lost_fault c (own c vs))
own_same b c ws vs a same = rw (absent_same b c ws vs same, same, lost_same b c (own c vs) a.rule a.lost)

pub alone : {R : Type 0} {refusal : ℕ → ℕ → R} {entry : Board → List ℕ → R} → Entry refusal entry →
    (owners : ℕ) (b c : Board) (ws vs : List ℕ) → teams_fault owners b ws ≡ fine → teams_fault owners c vs ≡ fine →
    Alike b c → own b ws ≡ own c vs →
    asked_for owners b ws refusal (entry b) ≡ asked_for owners c vs refusal (entry c)
unfolding asked_for
alone {R} {refusal} {entry} is owners b c ws vs e f a same =
    rw (shared_own owners b ws e, shared_own owners c vs f, own_same b c ws vs a same, same)
    (ap (unless_refused (absent_owner_fault c vs or_else lost_fault c (own c vs)) refusal) (windows_same is b c (own c vs) a.frame a.lost))

-- ---- what may depend on every team: 1 and 2, at place 0, 3, at a window of the whole list, and 12, at such a window or at 64

pub data WholeRefusal (windows : ℕ) : ℕ → ℕ → Type 0 where
  by_count : WholeRefusal windows 1 0
  by_frame : WholeRefusal windows 2 0
  by_window : (i : ℕ) → i < windows → WholeRefusal windows 3 i
  by_range : WholeRefusal windows 12 64
  by_sliver : (i : ℕ) → i < windows → WholeRefusal windows 12 i

pub whole_refusal : (owners : ℕ) (b : Board) (ws : List ℕ) (n p : ℕ) → teams_fault owners b ws ≡ fault n p → WholeRefusal (length (owned_of ws)) n p
unfolding teams_fault whole_fault owned_list_fault frame_fault owned_fault bad_owned
whole_refusal owners b ws n p = counted (bad_count 3 most_windows ws || eqb (length ws) 0)
  where
    R : Type 0
    R = WholeRefusal (length (owned_of ws)) n p

    is : {m q : ℕ} → WholeRefusal (length (owned_of ws)) m q → fault m q ≡ fault n p → R
    is {m} {q} r e = let x : m ≡ n = cc in let y : q ≡ p = cc in rw (← x, ← y) r

    slivered : sliver_fault b ws ≡ fault n p → R
    slivered e =
        let twelve = sliver_twelve b ws n p e in
        elim (sliver_place b ws p (rw twelve at e)) [ inl z ↦ rw (twelve, z) by_range | inr l ↦ rw twelve (by_sliver p l) ]

    bad : Option ℕ
    bad = first (λ i. not (owned_legal owners b (owned_of ws) i)) (length (owned_of ws))

    windowed : (o : Option ℕ) → bad ≡ o → (fault_at 3 o or_else sliver_fault b ws) ≡ fault n p → R
    windowed none f e = slivered e
    windowed (some i) f e = is (by_window i (first_some (λ j. not (owned_legal owners b (owned_of ws) j)) (length (owned_of ws)) i f).0) e

    framed : (t : Bool) → ((fault_if t 2 0 or_else fault_at 3 bad) or_else sliver_fault b ws) ≡ fault n p → R
    framed true e = is by_frame e
    framed false e = windowed bad refl e

    counted : (t : Bool) → ((fault_if t 1 0 or_else fault_if (eqb b.frame 0 || ltb most_frame b.frame) 2 0 or_else fault_at 3 bad) or_else sliver_fault b ws) ≡ fault n p → R
    counted true e = is by_count e
    counted false e = framed (eqb b.frame 0 || ltb most_frame b.frame) e

-- what is refused so, by an entry
pub record Told {R : Type 0} (owners : ℕ) (b : Board) (ws : List ℕ) (answer : R) (refusal : ℕ → ℕ → R) : Type 0 where
  pub number : ℕ
  pub place : ℕ
  pub is : WholeRefusal (length (owned_of ws)) number place
  pub answered : answer ≡ refusal number place

module _ {R : Type 0} (refusal : ℕ → ℕ → R) (entry : List ℕ → R) (owners : ℕ) (b : Board) (ws : List ℕ) (n p : ℕ) where
  told : teams_fault owners b ws ≡ fault n p → shared_fault owners b ws ≡ fault n p → Told owners b ws (asked_for owners b ws refusal entry) refusal
  told e f = record { number = n; place = p; is = whole_refusal owners b ws n p e; answered = asked_refused owners b ws refusal entry f }

  whole_told : whole_fault owners b ws ≡ fault n p → Told owners b ws (asked_for owners b ws refusal entry) refusal
  unfolding teams_fault shared_fault
  whole_told e = told (rw e) (rw e)

  sliver_told : whole_fault owners b ws ≡ fine → absent_owner_fault b ws ≡ fine → sliver_fault b ws ≡ fault n p → Told owners b ws (asked_for owners b ws refusal entry) refusal
  unfolding teams_fault shared_fault
  sliver_told e a f = told (rw (e, f)) (rw (e, a, f))

-- nothing else does: of two tables on boards that are alike, with equal windows of the owner, on which it is answered differently by any entry, one is
-- refused so. 13 is not among them
pub told_apart : {R : Type 0} {refusal : ℕ → ℕ → R} {entry : Board → List ℕ → R} → Entry refusal entry →
    (owners : ℕ) (b c : Board) (ws vs : List ℕ) → Alike b c → own b ws ≡ own c vs →
    (asked_for owners b ws refusal (entry b) ≡ asked_for owners c vs refusal (entry c) → ⊥) →
    Told owners b ws (asked_for owners b ws refusal (entry b)) refusal ⊎ Told owners c vs (asked_for owners c vs refusal (entry c)) refusal
unfolding teams_fault shared_fault
told_apart {R} {refusal} {entry} is owners b c ws vs a same differ = go (whole_fault owners b ws) refl (whole_fault owners c vs) refl
  where
    One : Type 0
    One = Told owners b ws (asked_for owners b ws refusal (entry b)) refusal ⊎ Told owners c vs (asked_for owners c vs refusal (entry c)) refusal

    slivers : whole_fault owners b ws ≡ fine → whole_fault owners c vs ≡ fine → absent_owner_fault c vs ≡ fine →
        (f : Fault) → sliver_fault b ws ≡ f → (g : Fault) → sliver_fault c vs ≡ g → One
    slivers e h z (fault n p) s g t = inl (sliver_told refusal (entry b) owners b ws n p e (absent_same b c ws vs same ∙ z) s)
    slivers e h z fine s (fault n p) t = inr (sliver_told refusal (entry c) owners c vs n p h z t)
    slivers e h z fine s fine t = absurd (differ (alone is owners b c ws vs (rw (e, s)) (rw (h, t)) a same))

    absent : whole_fault owners b ws ≡ fine → whole_fault owners c vs ≡ fine → (f : Fault) → absent_owner_fault c vs ≡ f → One
    absent e h (fault n p) z =
        let there : shared_fault owners b ws ≡ fault n p = rw (e, absent_same b c ws vs same, z) in
        let here : shared_fault owners c vs ≡ fault n p = rw (h, z) in
        absurd (differ (asked_refused owners b ws refusal (entry b) there ∙ sym (asked_refused owners c vs refusal (entry c) here)))
    absent e h fine z = slivers e h z (sliver_fault b ws) refl (sliver_fault c vs) refl

    go : (f : Fault) → whole_fault owners b ws ≡ f → (g : Fault) → whole_fault owners c vs ≡ g → One
    go (fault n p) e g h = inl (whole_told refusal (entry b) owners b ws n p e)
    go fine e (fault n p) h = inr (whole_told refusal (entry c) owners c vs n p h)
    go fine e fine h = absent e h (absent_owner_fault c vs) refl

-- what is left of an owner's windows by itself depends on nothing else either
pub own_alone : (owners : ℕ) (b c : Board) (ws vs : List ℕ) → teams_fault owners b ws ≡ fine → teams_fault owners c vs ≡ fine → Alike b c → own b ws ≡ own c vs →
    (room : ℕ) (out : List ℕ) → (own_answer owners b ws room ≡ own_answer owners c vs room) × (own_out owners b ws out ≡ own_out owners c vs out)
unfolding own_answer own_out own_fault
own_alone owners b c ws vs e f a same room out =
    let g = shared_own owners b ws e in
    let h = shared_own owners c vs f in
    let s = own_same b c ws vs a same in
    let l : own_left b ws ≡ own_left c vs = rw (same, a.lost) in
    (rw (g, h, s, l), rw (g, h, s, l))

-- ---- a table with one owner

-- of a table that is given whole something is left
whole_left : (b : Board) (ws : List ℕ) → table_fault b ws ≡ fine → b.rule ≡ 1 → b.lost ≡ 0 → lost_fault b ws ≡ fine
unfolding lost_fault rule_fault
whole_left b ws e r q =
    let ok = table_legal b ws e q in
    let all = left_whole b.lost q ws ok.even (λ i h. (fits b (windows_of ws) ok.windows i h).0) in
    rw (all, r, q, ne_eqb (length ws) 0 (λ z. omega (arith, ok.some)))

module _ (o : ℕ) where
  abbrev of : Window → Owned
  of w = record { window = w; owner = o }

  at_of : (l : List Window) (i : ℕ) → i < length l → owned_at (map of l) i ≡ of (window_at l i)
  at_of [] i h = absurd (omega arith)
  at_of (w ∷ l) zero h = refl
  at_of (w ∷ l) (suc i) h = at_of l i (omega arith)

  length_of : (l : List Window) → length (map of l) ≡ length l
  length_of [] = refl
  length_of (w ∷ l) = ap suc (length_of l)

  owned_read : (ws : List ℕ) → owned_of (as_owned o ws) ≡ map of (windows_of ws)
  unfolding as_owned pieces pieces_from
  owned_read [] = refl
  owned_read (s ∷ []) = refl
  owned_read (s ∷ e ∷ ws) = ap (λ (l : List Owned). owned s e o ∷ l) (owned_read ws)

  -- threes for pairs, a number that is left over too
  pub owned_length : (ws : List ℕ) → (length (as_owned o ws) % 3 ≡ length ws % 2) × (length (as_owned o ws) / 3 ≡ length ws / 2)
  unfolding as_owned
  owned_length [] = (refl, refl)
  owned_length (s ∷ []) = (refl, refl)
  owned_length (s ∷ e ∷ ws) = let h = owned_length ws in (omega (arith, h.0), omega (arith, h.1))

  owned_back : (ws : List ℕ) → length ws % 2 ≡ 0 → windows_for o (owned_of (as_owned o ws)) ≡ ws
  unfolding as_owned windows_for pieces pieces_from
  owned_back [] h = refl
  owned_back (s ∷ []) h = absurd (omega arith)
  owned_back (s ∷ e ∷ ws) h = rw (eq-eqb o o refl, owned_back ws (omega arith))

  owned_empty : (ws : List ℕ) → eqb (length (as_owned o ws)) 0 ≡ eqb (length ws) 0
  unfolding as_owned
  owned_empty [] = refl
  owned_empty (s ∷ []) = refl
  owned_empty (s ∷ e ∷ ws) =
      ne_eqb (suc (suc (suc (length (as_owned o ws))))) 0 (λ z. omega arith) ∙ sym (ne_eqb (suc (suc (length ws))) 0 (λ z. omega arith))

  owned_list : (ws : List ℕ) → owned_list_fault (as_owned o ws) ≡ window_list_fault ws
  unfolding owned_list_fault window_list_fault bad_count
  owned_list ws = let h = owned_length ws in rw (h.0, h.1, owned_empty ws)

  module _ (owners : ℕ) (b : Board) (exists : o < owners) (l : List Window) where
    owned_legal_lem : (i : ℕ) → i < length l → owned_legal owners b (map of l) i ≡ window_legal b l i
    unfolding owned_legal window_legal follows
    owned_legal_lem zero h = rw (at_of l 0 h, lt-ltb o owners exists) (and-true _)
    owned_legal_lem (suc i) h =
        let back : suc i - 1 ≡ i = omega arith in
        rw (at_of l (suc i) h, back, at_of l i (omega arith), lt-ltb o owners exists, eq-eqb o o refl, and-true, and-false, or-false)

    owned_bad : bad_owned owners b (map of l) ≡ bad_window b l
    unfolding bad_owned bad_window
    owned_bad =
        ap (first (λ i. not (owned_legal owners b (map of l) i))) (length_of l)
        ∙ first_equal (λ i. not (owned_legal owners b (map of l) i)) (λ i. not (window_legal b l i)) (length l) (λ i h. ap not (owned_legal_lem i h))

-- a list of pairs read as threes with one owner is refused as the pairs are
module _ (owners : ℕ) (b : Board) (exists : b.owner < owners) (ws : List ℕ) where
  abbrev threes : List ℕ
  threes = as_owned b.owner ws

  owned_whole : whole_fault owners b threes ≡ table_fault b ws
  unfolding whole_fault table_fault owned_fault window_fault
  owned_whole = rw (owned_list b.owner ws, owned_read b.owner ws, owned_bad b.owner owners b exists (windows_of ws))

  pub pairs_fault : shared_fault owners b threes ≡ (table_fault b ws or_else sliver_fault b threes or_else lost_fault b ws)
  unfolding shared_fault absent_owner_fault
  pairs_fault = rw owned_whole (go (table_fault b ws) refl)
    where
      go : (f : Fault) → table_fault b ws ≡ f →
          (f or_else fault_if (eqb (length (own b threes)) 0) 1 0 or_else sliver_fault b threes or_else lost_fault b (own b threes))
          ≡ (f or_else sliver_fault b threes or_else lost_fault b ws)
      go (fault n p) e = refl
      go fine e =
          let l = table_list b ws e in
          rw (owned_back b.owner ws l.0, ne_eqb (length ws) 0 (λ z. omega (arith, l.1)))

  -- and by nothing else on a board that allows every window and gives it whole
  pub pairs_only : b.shortest ≡ 1 → b.rule ≡ 1 → b.lost ≡ 0 → shared_fault owners b threes ≡ table_fault b ws
  pairs_only one r q = pairs_fault ∙ go (table_fault b ws) refl
    where
      go : (f : Fault) → table_fault b ws ≡ f → (f or_else sliver_fault b threes or_else lost_fault b ws) ≡ f
      go (fault n p) e = refl
      go fine e = rw (one_tick owners b threes one (owned_whole ∙ e)) (whole_left b ws e r q)

  -- where they are a table they are its owner's windows
  pub own_pairs : length ws % 2 ≡ 0 → own b threes ≡ ws
  own_pairs h = owned_back b.owner ws h

  -- and they are answered as the pairs are, refusals and places too
  pub one_owner : b.shortest ≡ 1 → b.rule ≡ 1 → b.lost ≡ 0 → {R : Type 0} {refusal : ℕ → ℕ → R} {entry : Board → List ℕ → R} → Entry refusal entry →
      asked_for owners b threes refusal (entry b) ≡ entry b ws
  one_owner one r q {R} {refusal} {entry} is = go (table_fault b ws) refl
    where
      go : (f : Fault) → table_fault b ws ≡ f → asked_for owners b threes refusal (entry b) ≡ entry b ws
      go (fault n p) e = asked_refused owners b threes refusal (entry b) (pairs_only one r q ∙ e) ∙ sym (is.checks b ws n p e)
      go fine e =
          asked_fine owners b threes refusal (entry b) (pairs_only one r q ∙ e) ∙ ap (entry b) (own_pairs (table_list b ws e).0)

-- ---- a trace, whose bytes are refused before any table

pub or_nine_lem : {A B : Type 0} (r : Read A) (f g : A → ℕ → Answer B) → ((a : A) (next : ℕ) → f a next ≡ g a next) → or_nine r f ≡ or_nine r g
or_nine_lem (read a next) f g h = h a next
or_nine_lem (bad o) f g h = refl

pub replay_alone : (b c : Board) (ws vs ts bytes : List ℕ) → teams_fault teams b ws ≡ fine → teams_fault teams c vs ≡ fine →
    Alike b c → own b ws ≡ own c vs → replay_for b ws ts bytes ≡ replay_for c vs ts bytes
unfolding replay_for records_for
replay_alone b c ws vs ts bytes e f a same =
    or_nine_lem (trace_of bytes) _ _ (λ rs next. alone (records_entry ts (timed rs)) teams b c ws vs e f a same)

pub replay_told_apart : (b c : Board) (ws vs ts bytes : List ℕ) → Alike b c → own b ws ≡ own c vs →
    (replay_for b ws ts bytes ≡ replay_for c vs ts bytes → ⊥) →
    Told teams b ws (replay_for b ws ts bytes) refused ⊎ Told teams c vs (replay_for c vs ts bytes) refused
unfolding replay_for records_for
replay_told_apart b c ws vs ts bytes a same = go (trace_of bytes)
  where
    on : Board → List ℕ → List Stamped → ℕ → Answer Replayed
    on d us rs next = asked_for teams d us refused (λ l. records_answer d l ts (timed rs))

    go : (r : Read (List Stamped)) → (or_nine r (on b ws) ≡ or_nine r (on c vs) → ⊥) →
        Told teams b ws (or_nine r (on b ws)) refused ⊎ Told teams c vs (or_nine r (on c vs)) refused
    go (bad o) differ = absurd (differ refl)
    go (read rs next) differ = told_apart (records_entry ts (timed rs)) teams b c ws vs a same differ

pub replay_one_owner : (b : Board) → b.owner < teams → b.shortest ≡ 1 → b.rule ≡ 1 → b.lost ≡ 0 → (ws ts bytes : List ℕ) → replay_for b (as_owned b.owner ws) ts bytes ≡ replay_answer b ws ts bytes
unfolding replay_for records_for replay_answer
replay_one_owner b exists one r q ws ts bytes = or_nine_lem (trace_of bytes) _ _ (λ rs next. one_owner teams b exists ws one r q (records_entry ts (timed rs)))

-- where the list has no fault, what the owner's windows get is answered
pub replay_own : (b : Board) (ws ts bytes : List ℕ) → shared_fault teams b ws ≡ fine → replay_for b ws ts bytes ≡ replay_answer b (own b ws) ts bytes
unfolding replay_for records_for replay_answer
replay_own b ws ts bytes e =
    or_nine_lem (trace_of bytes) _ _ (λ rs next. asked_fine teams b ws refused (λ l. records_answer b l ts (timed rs)) e)

pub replay_asked : (b : Board) (ws ts bytes : List ℕ) (v : Replayed) → replay_for b ws ts bytes ≡ given v →
    (shared_fault teams b ws ≡ fine) × (replay_answer b (own b ws) ts bytes ≡ given v)
unfolding replay_for records_for replay_answer
replay_asked b ws ts bytes v = go (trace_of bytes)
  where
    go : (r : Read (List Stamped)) → or_nine r (λ rs next. asked_for teams b ws refused (λ l. records_answer b l ts (timed rs))) ≡ given v →
        (shared_fault teams b ws ≡ fine) × (or_nine r (λ rs next. records_answer b (own b ws) ts (timed rs)) ≡ given v)
    go (read rs next) e = asked_given teams b ws (λ l. records_answer b l ts (timed rs)) v e
    go (bad o) e = let z : ◌≡◌ {A = ℕ} 0 1 = cc in absurd (omega arith)
