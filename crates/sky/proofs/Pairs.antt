-- The laws of the number of a pair: the same either way round, and at most 2^24.
use Rattle.std.proofs.Common.{◌≡◌, ℕ, ◌+◌, ◌*◌, ◌/◌, ◌≤◌, ℤ, pos, ◌+ℤ◌, ◌*ℤ◌, sym, ◌∙◌, ap₂, mul_comm, arith}
use Rattle.std.proofs.Math.Nat.{le_intro, div-le_of_le-mul}
use Rattle.lemmas.proofs.Integers.{pos_inj, square_is}
use Rattle.lemmas.proofs.Polynomials.{◌:+◌, ◌:-◌, ◌:*◌, sq}
use Rattle.lemmas.proofs.Ring.{◌:=◌, ringℤ}
use Rattle.sky.specs.Vectors.{Vector, square, length², cross, pair_number}

-- ---- the squares as sums of products over ℤ
abbrev dot : Vector → Vector → ℤ
dot v w = v.x *ℤ w.x +ℤ (v.y *ℤ w.y +ℤ v.z *ℤ w.z)

length_is : (v : Vector) → pos (length² v) ≡ dot v v
unfolding length² square
length_is v = sym (ap₂ ◌+ℤ◌ (square_is v.x) (ap₂ ◌+ℤ◌ (square_is v.y) (square_is v.z)))

-- ---- Lagrange's identity: sine and cosine
unfoldable along² : Vector → Vector → ℕ
along² v w = square (dot v w)

along_is : (v w : Vector) → pos (along² v w) ≡ dot v w *ℤ dot v w
unfolding along² square
along_is v w = sym (square_is (dot v w))

lagrange : (v w : Vector) → length² (cross v w) + along² v w ≡ length² v * length² w
unfolding cross
lagrange v w =
    pos_inj
    (ap₂ ◌+ℤ◌ (length_is (cross v w)) (along_is v w)
    ∙ ringℤ 6 (λ a b c d e f.
    sq (b :* f :- c :* e) :+ (sq (c :* d :- a :* f) :+ sq (a :* e :- b :* d)) :+ sq (a :* d :+ (b :* e :+ c :* f))
    := (sq a :+ (sq b :+ sq c)) :* (sq d :+ (sq e :+ sq f))) tt v.x v.y v.z w.x w.y w.z
    ∙ sym (ap₂ ◌*ℤ◌ (length_is v) (length_is w)))

pub sine_at_most_one : (v w : Vector) → length² (cross v w) ≤ length² v * length² w
sine_at_most_one v w = le_intro (length² (cross v w)) (along² v w) (lagrange v w)

pub at_most_2^24 : (v w : Vector) → pair_number v w ≤ 16777216
unfolding pair_number
at_most_2^24 v w = div-le_of_le-mul (length² v * length² w) (omega (arith, sine_at_most_one v w))

-- ---- the order of the two
cross_other : (v w : Vector) → length² (cross v w) ≡ length² (cross w v)
unfolding cross
cross_other v w =
    pos_inj
    (length_is (cross v w)
    ∙ ringℤ 6 (λ a b c d e f.
    sq (b :* f :- c :* e) :+ (sq (c :* d :- a :* f) :+ sq (a :* e :- b :* d))
    := sq (e :* c :- f :* b) :+ (sq (f :* a :- d :* c) :+ sq (d :* b :- e :* a))) tt v.x v.y v.z w.x w.y w.z
    ∙ sym (length_is (cross w v)))

pub same_either_way : (v w : Vector) → pair_number v w ≡ pair_number w v
unfolding pair_number
same_either_way v w = ap₂ (λ s l. (16777216 * s) / l) (cross_other v w) (mul_comm (length² v) (length² w))
