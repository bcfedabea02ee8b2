-- The bits of one number: which positions it holds when it is made by `or`, by `xor`, as a power of two, or by a cut.
-- A position is brought to the lowest bit by a division, and two lowest bits are told by cases. Assumes nothing.
use Rattle.std.proofs.Common.{◌≡◌, ℕ, zero, suc, ◌+◌, ◌-◌, ◌/◌, ◌%◌, ◌^◌, ◌<◌, ◌≤◌, Bool, true, false, cond, not, ◌&&◌, ◌||◌, eqb, sym, refl, ap, ◌∙◌, ⊎_elim, one-mul, arith, pow_mono}
use mathlib.Core.Bool.{xor}
use native.Mathlib.Nat.{div-eq_of_lt}
use lib.Bits.{bit_or, bit_xor, shifted_even}
use Rattle.std.proofs.lemmas.Nat.{pow_pos, pow-add, pow_below, shl-shr, or_shr, xor_shr, or_mod, xor_mod, mod_below}
use Rattle.std.proofs.lemmas.Bool.{eq-eqb, ne_eqb, eqb-true, cases_order, false≢true}
use Rattle.links.specs.Rows.{holds, cut}

-- two lowest bits
or_digit : (p q : ℕ) → p < 2 → q < 2 → eqb (bit_or p q) 1 ≡ (eqb p 1 || eqb q 1)
or_digit zero zero h k = refl
or_digit zero (suc zero) h k = refl
or_digit (suc zero) zero h k = refl
or_digit (suc zero) (suc zero) h k = refl
or_digit zero (suc (suc q)) h k = absurd (omega arith)
or_digit (suc zero) (suc (suc q)) h k = absurd (omega arith)
or_digit (suc (suc p)) q h k = absurd (omega arith)

xor_digit : (p q : ℕ) → p < 2 → q < 2 → eqb (bit_xor p q) 1 ≡ xor (eqb p 1) (eqb q 1)
unfolding xor
xor_digit zero zero h k = refl
xor_digit zero (suc zero) h k = refl
xor_digit (suc zero) zero h k = refl
xor_digit (suc zero) (suc zero) h k = refl
xor_digit zero (suc (suc q)) h k = absurd (omega arith)
xor_digit (suc zero) (suc (suc q)) h k = absurd (omega arith)
xor_digit (suc (suc p)) q h k = absurd (omega arith)

bit_below : (x a : ℕ) → a / 2 ^ x % 2 < 2
bit_below x a = mod_below (a / 2 ^ x) 2 (omega arith)

pub holds_or : (x a b : ℕ) → holds x (bit_or a b) ≡ (holds x a || holds x b)
holds_or x a b =
    ap (λ n. eqb (n % 2) 1) (or_shr a b x)
    ∙ ap (λ n. eqb n 1) (or_mod (a / 2 ^ x) (b / 2 ^ x) 1)
    ∙ or_digit (a / 2 ^ x % 2) (b / 2 ^ x % 2) (bit_below x a) (bit_below x b)

pub holds_xor : (x a b : ℕ) → holds x (bit_xor a b) ≡ xor (holds x a) (holds x b)
holds_xor x a b =
    ap (λ n. eqb (n % 2) 1) (xor_shr a b x)
    ∙ ap (λ n. eqb n 1) (xor_mod (a / 2 ^ x) (b / 2 ^ x) 1)
    ∙ xor_digit (a / 2 ^ x % 2) (b / 2 ^ x % 2) (bit_below x a) (bit_below x b)

-- a power of two, brought down by x places
power_down : (x k : ℕ) → 2 ^ (k + x) / 2 ^ x ≡ 2 ^ k
power_down x k = ap (λ n. n / 2 ^ x) (pow-add 2 k x) ∙ shl-shr (2 ^ k) x

pub holds_bit : (x b : ℕ) → holds x (2 ^ b) ≡ eqb x b
holds_bit x b = ⊎_elim same (⊎_elim below above) (cases_order x b)
  where
    down : (k : ℕ) → b ≡ k + x → holds x (2 ^ b) ≡ eqb (2 ^ k % 2) 1
    down k e = ap (λ n. eqb (2 ^ n / 2 ^ x % 2) 1) e ∙ ap (λ n. eqb (n % 2) 1) (power_down x k)

    same : x ≡ b → holds x (2 ^ b) ≡ eqb x b
    same e = down 0 (omega arith) ∙ sym (eq-eqb x b e)

    below : x < b → holds x (2 ^ b) ≡ eqb x b
    below h =
        let k = b - x - 1 in
        down (suc k) (omega arith)
        ∙ ap (λ n. eqb (n % 2) 1) (sym (one-mul (2 ^ suc k)))
        ∙ ap (λ n. eqb n 1) (shifted_even 1 k)
        ∙ sym (ne_eqb x b (λ e. omega arith))

    above : b < x → holds x (2 ^ b) ≡ eqb x b
    above h = ap (λ n. eqb (n % 2) 1) (div-eq_of_lt (pow_below b x h)) ∙ sym (ne_eqb x b (λ e. omega arith))

pub holds_zero : (x : ℕ) → holds x 0 ≡ false
holds_zero x = ap (λ n. eqb (n % 2) 1) (div-eq_of_lt (pow_pos x))

taken_out : (p q : Bool) → (q ≡ true → p ≡ true) → xor p q ≡ (p && not q)
unfolding xor
taken_out true true h = refl
taken_out true false h = refl
taken_out false true h = absurd (false≢true (h refl))
taken_out false false h = refl

-- one bit out of a number that holds it
without : (x c row : ℕ) → holds c row ≡ true → holds x (bit_xor row (2 ^ c)) ≡ (holds x row && not (eqb x c))
without x c row h =
    holds_xor x row (2 ^ c)
    ∙ ap (xor (holds x row)) (holds_bit x c)
    ∙ taken_out (holds x row) (eqb x c) (λ e. ap (λ y. holds y row) (eqb-true x c e) ∙ h)

pub holds_cut : (x c instead row : ℕ) → holds x (cut c instead row) ≡ cond (holds c row) ((holds x row && not (eqb x c)) || holds x instead) (holds x row)
holds_cut x c instead row = go (holds c row) refl
  where
    go : (b : Bool) → holds c row ≡ b → holds x (cond b (bit_or (bit_xor row (2 ^ c)) instead) row) ≡ cond b ((holds x row && not (eqb x c)) || holds x instead) (holds x row)
    go true e = holds_or x (bit_xor row (2 ^ c)) instead ∙ ap (λ b. b || holds x instead) (without x c row e)
    go false e = refl

-- a number of 64 bits holds nothing past them
pub holds_past : (x row : ℕ) → 64 ≤ x → row < 2 ^ 64 → holds x row ≡ false
holds_past x row h k =
    let small : row < 2 ^ x = omega (arith, pow_mono {i = 64} {j = x} h) in
    ap (λ n. eqb (n % 2) 1) (div-eq_of_lt small)
