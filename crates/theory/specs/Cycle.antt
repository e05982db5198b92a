-- Laws of the greatest common divisor, the least common multiple and the cycle
use Rattle.std.specs.Prelude.{◌≡◌, refl, List, [], ◌∷◌, ℕ, zero, suc, ◌+◌, ◌*◌, ◌/◌, ◌%◌, ◌≤◌, ◌<◌}
use Rattle.std.proofs.Common.{sym, ap, ◌∙◌, subst, ⊎_elim, arith, mod-lt, zero-lt-suc, not-suc-le-zero, le_refl, mul-add, mul_assoc, mul_comm, eq-zero-or-pos, zero-mul, mul-pos}
use Rattle.std.specs.Int.{◌∣◌}
use Rattle.std.proofs.Math.Decide.{le_ind}
use Rattle.std.proofs.Math.Nat.{dvd_refl, dvd-zero, dvd-mod_iff, pos_of_dvd_of_pos, div-add-mod, dvd-mul_right_of_dvd, dvd-add_iff_right, div-mul_cancel, dvd-mul_left, mul-dvd-mul_left, mul-dvd-mul_right, dvd_trans, dvd_of_mul-dvd-mul_right}
use Rattle.scope.specs.Tasks.{Task}
use Rattle.scope.specs.Cycle.{gcd_within, gcd, lcm, cycle}
use Rattle.theory.specs.Tasks.{TaskRules, Periods}

-- ---- the greatest common divisor

-- more steps than b change nothing
more_steps : (n a b : ℕ) → b ≤ n → gcd_within (suc n) a b ≡ gcd_within n a b
unfolding gcd_within
more_steps zero a zero h = refl
more_steps zero a (suc b) h = absurd (not-suc-le-zero h)
more_steps (suc n) a zero h = refl
more_steps (suc n) a (suc b) h = more_steps n (suc b) (a % suc b) (omega (arith, mod-lt a (zero-lt-suc b)))

enough_steps : (n a b : ℕ) → b ≤ n → gcd_within n a b ≡ gcd_within b a b
enough_steps n a b h = le_ind (λ (m : ℕ). gcd_within m a b ≡ gcd_within b a b) refl (λ m k e. more_steps m a b k ∙ e) n h

pub gcd_zero : (a : ℕ) → gcd a 0 ≡ a
unfolding gcd gcd_within
gcd_zero a = refl

pub gcd_step : (a b : ℕ) → 0 < b → gcd a b ≡ gcd b (a % b)
unfolding gcd gcd_within
gcd_step a zero h = absurd (not-suc-le-zero h)
gcd_step a (suc b) h = enough_steps b (suc b) (a % suc b) (omega (arith, mod-lt a (zero-lt-suc b)))

-- it divides both numbers; and what divides m times each of them divides m times it
record Divisor (a b g : ℕ) : Type 0 where
  left : g ∣ a
  right : g ∣ b
  times : (m d : ℕ) → d ∣ m * a → d ∣ m * b → d ∣ m * g

divisor : (n a b : ℕ) → b ≤ n → Divisor a b (gcd_within n a b)
unfolding gcd_within
divisor zero a zero h = record { left = dvd_refl a; right = dvd-zero a; times = λ m d p q. p }
divisor zero a (suc b) h = absurd (not-suc-le-zero h)
divisor (suc n) a zero h = record { left = dvd_refl a; right = dvd-zero a; times = λ m d p q. p }
divisor (suc n) a (suc b) h =
    let r = divisor n (suc b) (a % suc b) (omega (arith, mod-lt a (zero-lt-suc b))) in
    record {
      left = (dvd-mod_iff _ r.left).0 r.right;
      right = r.left;
      times = λ m d p q.
          let e : m * (suc b * (a / suc b)) + m * (a % suc b) ≡ m * a =
          sym (mul-add m (suc b * (a / suc b)) (a % suc b)) ∙ ap (λ (x : ℕ). m * x) (div-add-mod a (suc b)) in
          let k : d ∣ m * (suc b * (a / suc b)) =
          subst (λ (x : ℕ). d ∣ x) (mul_assoc m (suc b) (a / suc b)) (dvd-mul_right_of_dvd _ q (a / suc b)) in
          r.times m d q ((dvd-add_iff_right _ k).1 (subst (λ (x : ℕ). d ∣ x) (sym e) p));
    }

gcd_divisor : (a b : ℕ) → Divisor a b (gcd a b)
unfolding gcd
gcd_divisor a b = divisor b a b (le_refl b)

pub gcd_pos : (a b : ℕ) → 0 < b → 0 < gcd a b
gcd_pos a b h = pos_of_dvd_of_pos (gcd_divisor a b).right h

-- ---- the least common multiple

quotient : (a b : ℕ) → a / gcd a b * gcd a b ≡ a
quotient a b = div-mul_cancel _ (gcd_divisor a b).left

pub lcm_left : (a b : ℕ) → a ∣ lcm a b
unfolding lcm
lcm_left a b = subst (λ (x : ℕ). x ∣ a / gcd a b * b) (quotient a b) (mul-dvd-mul_left _ (a / gcd a b) (gcd_divisor a b).right)

pub lcm_right : (a b : ℕ) → b ∣ lcm a b
unfolding lcm
lcm_right a b = dvd-mul_left b (a / gcd a b)

pub lcm_pos : (a b : ℕ) → 0 < a → 0 < b → 0 < lcm a b
unfolding lcm
lcm_pos a b ha hb = mul-pos q hb
  where
    q : 0 < a / gcd a b
    q = ⊎_elim (λ e. absurd (omega (arith, quotient a b, ap (λ (x : ℕ). x * gcd a b) e, zero-mul (gcd a b)))) (λ h. h) (eq-zero-or-pos (a / gcd a b))

-- it divides every common multiple
pub lcm_least : (a b m : ℕ) → 0 < b → a ∣ m → b ∣ m → lcm a b ∣ m
unfolding lcm
lcm_least a b m hb p q =
    let g = gcd a b in
    let u : b * a ∣ m * a = mul-dvd-mul_right _ q a in
    let v : b * a ∣ m * b = subst (λ (x : ℕ). x ∣ m * b) (mul_comm a b) (mul-dvd-mul_right _ p b) in
    let e : b * a ≡ a / g * b * g =
    ap (λ (x : ℕ). b * x) (sym (quotient a b)) ∙ sym (mul_assoc b (a / g) g) ∙ ap (λ (x : ℕ). x * g) (mul_comm b (a / g)) in
    dvd_of_mul-dvd-mul_right _ (gcd_pos a b hb) (subst (λ (x : ℕ). x ∣ m * g) e ((gcd_divisor a b).times m (b * a) u v))

-- ---- the cycle: a common multiple of the frame and all periods, and the least

rest : (x : Task) (ts : List Task) → TaskRules (x ∷ ts) → TaskRules ts
rest x ts ok i l = ok (suc i) (omega arith)

pub cycle_pos : (P : ℕ) (ts : List Task) → 0 < P → TaskRules ts → 0 < cycle P ts
unfolding cycle
cycle_pos P [] p ok = p
cycle_pos P (x ∷ ts) p ok = cycle_pos (lcm P x.T) ts (lcm_pos P x.T p (ok 0 (omega arith)).period) (rest x ts ok)

pub cycle_frame : (P : ℕ) (ts : List Task) → P ∣ cycle P ts
unfolding cycle
cycle_frame P [] = dvd_refl P
cycle_frame P (x ∷ ts) = dvd_trans _ (lcm_left P x.T) (cycle_frame (lcm P x.T) ts)

pub cycle_periods : (P : ℕ) (ts : List Task) → Periods ts (cycle P ts)
unfolding cycle
cycle_periods P [] i l = absurd (omega arith)
cycle_periods P (x ∷ ts) zero l = dvd_trans _ (lcm_right P x.T) (cycle_frame (lcm P x.T) ts)
cycle_periods P (x ∷ ts) (suc i) l = cycle_periods (lcm P x.T) ts i (omega arith)

pub cycle_least : (P : ℕ) (ts : List Task) → TaskRules ts → (m : ℕ) → P ∣ m → Periods ts m → cycle P ts ∣ m
unfolding cycle
cycle_least P [] ok m p q = p
cycle_least P (x ∷ ts) ok m p q =
    cycle_least (lcm P x.T) ts (rest x ts ok) m (lcm_least P x.T m (ok 0 (omega arith)).period p (q 0 (omega arith)))
    (λ i l. q (suc i) (omega arith))
