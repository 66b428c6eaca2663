-- How many bits a number has, and what is left without the last ones.
use Rattle.std.proofs.Common.{◌≡◌, ℕ, zero, suc, ◌+◌, ◌-◌, ◌*◌, ◌/◌, ◌^◌, ◌<◌, ◌≤◌, ap, ◌∙◌, subst, ⊎_elim, zero-lt-suc, arith, pow_mono}
use Rattle.std.specs.Int.Count.{count_leading_zeros}
use Rattle.std.proofs.lemmas.Nat.{pow_pos, pow-add, shr_le, shr_below, le-div, shr_split, leading_length}
use Rattle.std.proofs.lemmas.Bool.{cases_lt}
use Rattle.wide.specs.Leading.{Past32}

-- ---- how many bits a number has, by the zeros in front
by_length : (n m i : ℕ) → n < 2 ^ m → 2 ^ m ≤ 2 * n + 1 → i ≡ m - 32 → Past32 n i
by_length n m i below above e = ⊎_elim long short (cases_lt 32 m)
  where
    long : 32 < m → Past32 n i
    long h =
        let f : m ≡ 32 + i = omega arith in
        let g : 2 ^ m ≡ 2 ^ 32 * 2 ^ i = ap (λ j. 2 ^ j) f ∙ pow-add 2 32 i in
        let k : 2 ^ 31 * 2 ^ i ≤ n = omega arith in
        record { below = shr_below n 32 i (subst (λ j. n < 2 ^ j) f below); full = λ _. le-div (2 ^ 31) n (2 ^ i) (pow_pos i) k }

    short : m ≤ 32 → Past32 n i
    short h =
        let k : 2 ^ m ≤ 2 ^ 32 = pow_mono h in
        record { below = omega (arith, shr_le n i); full = λ z. absurd (omega arith) }

pub past_32 : (n i : ℕ) → n < 2 ^ 128 → i ≡ 96 - count_leading_zeros 128 n → Past32 n i
past_32 n i h e =
    let (m, f, below, above) = leading_length 128 n h in by_length n m i below above (omega arith)

-- ---- a number and its leading bits
pub none_left : (n i : ℕ) → Past32 n i → n / 2 ^ i ≡ 0 → n ≡ 0
none_left n zero h e = omega (arith, shr_split n 0)
none_left n (suc i) h e = absurd (omega (arith, h.full (zero-lt-suc i)))
