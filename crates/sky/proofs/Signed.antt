-- Signed numbers that are small are read back from their bits as they were.
use Rattle.std.proofs.Common.{◌≡◌, ◌*◌, ◌^◌, ◌<◌, ◌≤◌, ℤ, pos, negsuc, ◌*ℤ◌, nat_abs, mul-le-mul, arith, to_z-of_z, w32, w64, SFits, to_z, of_z}
use Rattle.std.proofs.lemmas.Int.{unsigned_abs-mul}
use mir.Syntax.{Width}
use mir.Val.{hbits}
use Rattle.sky.specs.Vectors.{InRange}

fits : (w : Width) (a : ℤ) → nat_abs a < 2 ^ hbits w → SFits w a
fits w (pos n) h = record { sfits = h }
fits w (negsuc n) h = record { sfits = omega arith }

read_back : (w : Width) (a : ℤ) → nat_abs a < 2 ^ hbits w → to_z w (of_z w a) ≡ a
read_back w a h = to_z-of_z (fits w a h)

-- ---- coordinates
pub coordinate_32 : (a : ℤ) → InRange a → to_z w32 (of_z w32 a) ≡ a
coordinate_32 a h = read_back w32 a (omega arith)

pub coordinate_64 : (a : ℤ) → InRange a → to_z w64 (of_z w64 a) ≡ a
coordinate_64 a h = read_back w64 a (omega arith)

-- ---- their products
pub product_bound : (a b : ℤ) → InRange a → InRange b → nat_abs (a *ℤ b) ≤ 65535 * 65535
product_bound a b h k = omega (arith, unsigned_abs-mul a b, mul-le-mul h k)

pub product_64 : (p : ℤ) → nat_abs p ≤ 65535 * 65535 → to_z w64 (of_z w64 p) ≡ p
product_64 p h = read_back w64 p (omega arith)
