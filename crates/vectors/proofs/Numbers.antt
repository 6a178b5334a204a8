-- Laws of numbers as bytes, over the width: lengths, what is read where something was written and the other way
-- round, and the loops that read a number, store one, and write one piece after another.
use Prim.Native.Nat.{ℕ, zero, suc, ◌+◌, ◌-◌, ◌*◌, ◌/◌, ◌%◌, ◌^◌, ◌≤◌, ◌<◌}
use mathlib.Core.Path.{◌≡◌, refl, sym, ap, ap₂, ◌∙◌}
use mathlib.Core.Bool.{Bool, ◌&&◌}
use mathlib.Core.List.{List, [], ◌∷◌, ◌++◌, append_assoc, append-nil}
use native.Mathlib.Nat.{add-zero, add-suc, suc-add, zero-add, add_comm, mul-zero, mul-suc, mul-le-mul_left, pow-suc, pow-succ', div-div-eq-div-mul, mod-one, mod-eq_of_lt, le_of_suc-le-suc, not-suc-le-zero, sub-zero}
use native.Mathlib.Numerals.{add-one}
use native.Mathlib.Decide.{ℕ_discrete}
use native.Mathlib.Omega.{arith}
use lib.Arith.{mod-mul, digits_div, digits_mod}
use lib.Dec.{eqb}
use lib.ListN.{length, get_or, set, take, drop, length-append, get_or-append}
use lib.Seq.{sets, sets-eq, length-sets, length-take-le, take-length, take-suc, take-add, take_at, drop_at, drop-drop, get_or-take, get_or-drop, get_or_at, get_or-append-add}
use borrow.Author.Tests.{eq-eqb, ne_eqb, eqb-true}
use borrow.Rule.Slice.PartMut.{put_mid, Post-is}
use Rattle.std.specs.Cmp.Derive.{one_truth}
use Rattle.std.specs.Int.{byte_at, bytes_high_first}
use Rattle.vectors.specs.Vectors.{all, table}
use Rattle.vectors.specs.Bytes.{number_at, bytes_of, fields_of, Bytes}

-- ---- lengths

pub length_bytes_of : (w x : ℕ) → length (bytes_of w x) ≡ w
unfolding bytes_of
length_bytes_of zero x = refl
length_bytes_of (suc w) x = length-append (bytes_of w (x / 256)) (x % 256 ∷ []) ∙ ap (λ (k : ℕ). k + 1) (length_bytes_of w (x / 256)) ∙ add-one w

pub length_fields_of : (w : ℕ) (v : List ℕ) → length (fields_of w v) ≡ w * length v
unfolding fields_of
length_fields_of w [] = sym (mul-zero w)
length_fields_of w (x ∷ v) =
    length-append (bytes_of w x) (fields_of w v) ∙ ap₂ ◌+◌ (length_bytes_of w x) (length_fields_of w v) ∙ add_comm w (w * length v) ∙ sym (mul-suc w (length v))

-- the first n of at least n fields
pub length_fields : (w n : ℕ) (v : List ℕ) → n ≤ length v → length (fields_of w (take n v)) ≡ w * n
length_fields w n v h = length_fields_of w (take n v) ∙ ap (λ (k : ℕ). w * k) (length-take-le n v h)

-- ---- std's bytes of a number

byte_above : (k x : ℕ) → byte_at (suc k) x ≡ byte_at k (x / 256)
byte_above zero x = refl
byte_above (suc k) x = sym (ap (λ (y : ℕ). y % 256) (div-div-eq-div-mul x 256 (256 ^ suc k) ∙ ap (λ (p : ℕ). x / p) (sym (pow-succ' 256 (suc k)))))

byte_more : (w x : ℕ) → bytes_high_first (suc w) x ≡ bytes_high_first w (x / 256) ++ (x % 256 ∷ [])
byte_more zero x = refl
byte_more (suc w) x = ap₂ ◌∷◌ (byte_above w x) (byte_more w x)

-- std writes the high byte first as we do
pub high_first : (w x : ℕ) → bytes_high_first w x ≡ bytes_of w x
unfolding bytes_of
high_first zero x = refl
high_first (suc w) x = byte_more w x ∙ ap (λ (l : List ℕ). l ++ (x % 256 ∷ [])) (high_first w (x / 256))

-- ---- two bytes

pub two_bytes : (s : List ℕ) (i : ℕ) → get_or s i 0 * 256 + get_or s (i + 1) 0 ≡ number_at 2 s i
unfolding number_at
two_bytes s i = rw add-zero (omega arith)

-- ---- how large a number is

pow_256 : (w : ℕ) → 0 < 256 ^ w
pow_256 zero = omega arith
pow_256 (suc w) = omega (arith, pow-suc 256 w, pow_256 w)

pub number_fits : (w : ℕ) (s : List ℕ) (i : ℕ) → Bytes s → number_at w s i < 256 ^ w
unfolding number_at Bytes
number_fits zero s i small = omega arith
number_fits (suc w) s i small = omega (arith, pow-suc 256 w, number_fits w s i small, small (i + w))

-- ---- zeros

-- two numbers that are 0 together
pub zero_together : (x y : ℕ) → (x ≡ 0 → y ≡ 0) → (y ≡ 0 → x ≡ 0) → eqb x 0 ≡ eqb y 0
zero_together x y there back = one_truth _ _ (λ e. eq-eqb y 0 (there (eqb-true x 0 e))) (λ e. eq-eqb x 0 (back (eqb-true y 0 e)))

-- a number is 0 where each of its bytes is
digits_zero : (high low : ℕ) → eqb (high * 256 + low) 0 ≡ (eqb high 0 && eqb low 0)
digits_zero high low =
    elim (ℕ_discrete high 0) [
      | yes none ↦ let alone : 0 * 256 + low ≡ low = omega arith in rw (none, alone)
      | no some ↦ rw (ne_eqb high 0 some) (ne_eqb (high * 256 + low) 0 (λ e. some (omega arith)))
    ]

pub zero_number : (w : ℕ) (s : List ℕ) (i : ℕ) → eqb (number_at w s i) 0 ≡ all w (λ k. eqb (get_or s (i + k) 0) 0)
unfolding number_at all
zero_number zero s i = refl
zero_number (suc w) s i =
    digits_zero (number_at w s i) (get_or s (i + w) 0) ∙ ap (λ (t : Bool). t && eqb (get_or s (i + w) 0) 0) (zero_number w s i)

-- ---- stores, one piece after another

sets_append : (l : List ℕ) (i : ℕ) (vs ws : List ℕ) → sets l i (vs ++ ws) ≡ sets (sets l i vs) (i + length vs) ws
sets_append l i [] ws = rw add-zero
sets_append l i (a ∷ vs) ws = sets_append (set l i a) (suc i) vs ws ∙ rw (suc-add, add-suc)

pub sets_then : (l : List ℕ) (i : ℕ) (vs ws : List ℕ) (j : ℕ) → i + length vs ≡ j → sets (sets l i vs) j ws ≡ sets l i (vs ++ ws)
sets_then l i vs ws j e = rw (← e) (sym (sets_append l i vs ws))

-- a part of n places from i on that was lent and came back as vs
pub stands_back : (l : List ℕ) (i n : ℕ) (vs now : List ℕ) → now ≡ vs → length vs ≡ n → i + n ≤ length l → put_mid i (i + n - i) l now ≡ sets l i vs
stands_back l i n vs now e long inside =
    ap (λ (rest : List ℕ). take i l ++ (now ++ rest)) (Post-is i (i + n) l (omega arith))
    ∙ ap₂ (λ (x : List ℕ) (k : ℕ). take i l ++ (x ++ drop (i + k) l)) e (sym long)
    ∙ sym (append_assoc (take i l) vs (drop (i + length vs) l))
    ∙ sym (sets-eq vs l i (omega (arith, long)))

-- a part of a list from its start to its end is the list
pub whole_part : {A : Type 0} (l : List A) (from end : ℕ) → from ≡ 0 → end ≡ length l → take (end - from) (drop from l) ≡ l
whole_part l from end at_start at_end = rw (at_start, at_end, sub-zero, take-length l) refl

-- the loop: after k turns what stands at i is `so_far k`
pub record Put (l : List ℕ) (i n : ℕ) (so_far : ℕ → List ℕ) (k : ℕ) (now : List ℕ) : Type 0 where
  pub low : k ≤ n
  pub long : length now ≡ length l
  pub is : now ≡ sets l i (so_far k)

module _ (l : List ℕ) (i n : ℕ) (so_far : ℕ → List ℕ) where
  pub put_more : (k at : ℕ) (now next piece : List ℕ) → Put l i n so_far k now → k < n → so_far (k + 1) ≡ so_far k ++ piece → i + length (so_far k) ≡ at
      → next ≡ sets now at piece → Put l i n so_far (k + 1) next
  put_more k at now next piece so h more here e =
      let is : next ≡ sets l i (so_far (k + 1)) =
      e ∙ ap (λ (x : List ℕ). sets x at piece) so.is ∙ sets_then l i (so_far k) piece at here ∙ ap (λ (x : List ℕ). sets l i x) (sym more) in
      record { low = omega arith; long = ap length is ∙ length-sets l i (so_far (k + 1)); is = is }

-- ---- fields, one after another

fields_of_append : (w : ℕ) (xs ys : List ℕ) → fields_of w (xs ++ ys) ≡ fields_of w xs ++ fields_of w ys
unfolding fields_of
fields_of_append w [] ys = refl
fields_of_append w (x ∷ xs) ys = ap (λ (l : List ℕ). bytes_of w x ++ l) (fields_of_append w xs ys) ∙ sym (append_assoc (bytes_of w x) (fields_of w xs) (fields_of w ys))

fields_of_one : (w x : ℕ) → fields_of w (x ∷ []) ≡ bytes_of w x
unfolding fields_of
fields_of_one w x = append-nil (bytes_of w x)

-- one field more, and one byte more
pub fields_more : (w : ℕ) (v : List ℕ) (k : ℕ) → k < length v → fields_of w (take (k + 1) v) ≡ fields_of w (take k v) ++ bytes_of w (get_or v k 0)
fields_more w v k h = rw (add-one, take-suc v k 0, fields_of_append, fields_of_one)

pub bytes_more : (s : List ℕ) (k : ℕ) → k < length s → take (k + 1) s ≡ take k s ++ (get_or s k 0 ∷ [])
bytes_more s k h = rw (add-one, take-suc s k 0)

-- ---- written, then read

-- what is read depends on its own bytes alone
number_same : (w : ℕ) (s t : List ℕ) (i j : ℕ) → ((b : ℕ) → b < w → get_or s (i + b) 0 ≡ get_or t (j + b) 0) → number_at w s i ≡ number_at w t j
unfolding number_at
number_same zero s t i j each = refl
number_same (suc w) s t i j each =
    ap₂ (λ (a b : ℕ). a * 256 + b) (number_same w s t i j (λ b h. each b (omega arith))) (each w (omega arith))

number_of_bytes : (w x : ℕ) → number_at w (bytes_of w x) 0 ≡ x % 256 ^ w
unfolding number_at bytes_of
number_of_bytes zero x = sym (mod-one x)
number_of_bytes (suc w) x =
    let high = bytes_of w (x / 256) in
    let long : length high ≡ w = length_bytes_of w (x / 256) in
    let a : number_at w (high ++ (x % 256 ∷ [])) 0 ≡ x / 256 % 256 ^ w =
    number_same w (high ++ (x % 256 ∷ [])) high 0 0 (λ b h. get_or-append high (x % 256 ∷ []) 0 (0 + b) (omega arith)) ∙ number_of_bytes w (x / 256) in
    let b : get_or (high ++ (x % 256 ∷ [])) (0 + w) 0 ≡ x % 256 = get_or_at high (x % 256) [] 0 (0 + w) (omega arith) in
    ap₂ (λ (p q : ℕ). p * 256 + q) a b ∙ sym (ap (λ (m : ℕ). x % m) (pow-suc 256 w) ∙ mod-mul x (pow_256 w) (omega arith))

-- w bytes that were copied from place i on
pub number_copied : (w : ℕ) (s bytes : List ℕ) (i : ℕ) → bytes ≡ take (i + w - i) (drop i s) → number_at w bytes 0 ≡ number_at w s i
number_copied w s bytes i e = number_same w bytes s 0 i each
  where
    each : (b : ℕ) → b < w → get_or bytes (0 + b) 0 ≡ get_or s (i + b) 0
    each b h =
        ap (λ (l : List ℕ). get_or l (0 + b) 0) e ∙ rw (zero-add b) (get_or-take (i + w - i) (drop i s) b 0 (omega arith) ∙ get_or-drop i s b 0)

-- the bytes of the field at k
field_bytes : (w : ℕ) (v : List ℕ) (k : ℕ) → k < length v → take w (drop (w * k) (fields_of w v)) ≡ bytes_of w (get_or v k 0)
unfolding fields_of
field_bytes w [] k h = absurd (not-suc-le-zero h)
field_bytes w (x ∷ v) zero h =
    ap (λ (i : ℕ). take w (drop i (bytes_of w x ++ fields_of w v))) (mul-zero w) ∙ take_at (bytes_of w x) (fields_of w v) w (length_bytes_of w x)
field_bytes w (x ∷ v) (suc k) h =
    ap (λ (i : ℕ). take w (drop i (bytes_of w x ++ fields_of w v))) (mul-suc w k ∙ add_comm (w * k) w)
    ∙ ap (take w) (sym (drop-drop (w * k) w (bytes_of w x ++ fields_of w v)) ∙ ap (drop (w * k)) (drop_at (bytes_of w x) (fields_of w v) w (length_bytes_of w x)))
    ∙ field_bytes w v k (le_of_suc-le-suc h)

field_alone : (w : ℕ) (v : List ℕ) (k : ℕ) → k < length v → number_at w (fields_of w v) (w * k) ≡ get_or v k 0 % 256 ^ w
field_alone w v k h =
    number_same w (fields_of w v) (bytes_of w (get_or v k 0)) (w * k) 0
    (λ b g.
    sym (get_or-drop (w * k) (fields_of w v) b 0) ∙ sym (get_or-take w (drop (w * k) (fields_of w v)) b 0 g)
    ∙ ap₂ (λ (l : List ℕ) (i : ℕ). get_or l i 0) (field_bytes w v k h) (sym (zero-add b)))
    ∙ number_of_bytes w (get_or v k 0)

-- a field between what stands before and what stands after
pub field_written : (w : ℕ) (before v after : List ℕ) (a k : ℕ) → length before ≡ a → k < length v → get_or v k 0 < 256 ^ w
    → number_at w (before ++ (fields_of w v ++ after)) (a + w * k) ≡ get_or v k 0
field_written w before v after a k here h fits =
    number_same w (before ++ (fields_of w v ++ after)) (fields_of w v) (a + w * k) (w * k) each ∙ field_alone w v k h ∙ mod-eq_of_lt fits
  where
    inside : w * k + w ≤ length (fields_of w v)
    inside =
        let most : w * suc k ≤ w * length v = mul-le-mul_left w h in
        omega (arith, mul-suc w k, length_fields_of w v)

    each : (b : ℕ) → b < w → get_or (before ++ (fields_of w v ++ after)) (a + w * k + b) 0 ≡ get_or (fields_of w v) (w * k + b) 0
    each b g =
        let i : a + w * k + b ≡ length before + (w * k + b) = omega arith in
        rw i (get_or-append-add before (fields_of w v ++ after) (w * k + b) 0 ∙ get_or-append (fields_of w v) after 0 (w * k + b) (omega (arith, inside)))

-- ---- read, then written

pub bytes_read : (w : ℕ) (s : List ℕ) (i : ℕ) → Bytes s → i + w ≤ length s → bytes_of w (number_at w s i) ≡ take w (drop i s)
unfolding bytes_of number_at Bytes
bytes_read zero s i small h = refl
bytes_read (suc w) s i small h =
    let last = small (i + w) in
    let high : (number_at w s i * 256 + get_or s (i + w) 0) / 256 ≡ number_at w s i = digits_div (number_at w s i) last in
    let low : (number_at w s i * 256 + get_or s (i + w) 0) % 256 ≡ get_or s (i + w) 0 = digits_mod (number_at w s i) last in
    let inside : w < length (drop i s) = omega (arith, lib.ListN.length-drop i s) in
    ap₂ (λ (q r : ℕ). bytes_of w q ++ (r ∷ [])) high low
    ∙ ap₂ (λ (l : List ℕ) (x : ℕ). l ++ (x ∷ [])) (bytes_read w s i small (omega arith)) (sym (get_or-drop i s w 0))
    ∙ sym (take-suc (drop i s) w 0 inside)

pub fields_read : (w n : ℕ) (s : List ℕ) (i : ℕ) → Bytes s → i + w * n ≤ length s → fields_of w (table n (λ k. number_at w s (i + w * k))) ≡ take (w * n) (drop i s)
unfolding table fields_of
fields_read w zero s i small h = rw mul-zero
fields_read w (suc n) s i small h =
    let f : ℕ → ℕ = λ k. number_at w s (i + w * k) in
    let m = mul-suc w n in
    fields_of_append w (table n f) (f n ∷ [])
    ∙ ap₂ (λ (a b : List ℕ). a ++ b) (fields_read w n s i small (omega arith)) (fields_of_one w (f n) ∙ bytes_read w s (i + w * n) small (omega arith))
    ∙ ap (λ (l : List ℕ). take (w * n) (drop i s) ++ take w l) (sym (drop-drop (w * n) i s))
    ∙ sym (rw m (take-add (w * n) w (drop i s)))
