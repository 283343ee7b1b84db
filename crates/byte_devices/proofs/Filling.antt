-- A piece that is filled call by call.
use Rattle.std.proofs.Common.{◌≡◌, ℕ, ◌+◌, ◌-◌, ◌<◌, ◌≤◌, List, ◌++◌, length, take, drop, Option, Some, None, sym, ap, ◌∙◌, subst, arith, take-add, drop-drop, length-take-le, length-drop}
use Rattle.std.proofs.lemmas.List.{take_at, drop_at, take-append-le}
use borrow.Rule.Slice.PartMut.{put_mid, post_of, same_len_mid, mid_of}
use Rattle.byte_devices.specs.Sources.{Takes}
use Rattle.byte_devices.specs.Taken.{IsTakenUpto}

-- the first bytes of what was put there
put_first : (at k n : ℕ) (xs ys : List ℕ) → at ≤ length xs → n ≤ length ys → take (at + n) (put_mid at k xs ys) ≡ take at xs ++ take n ys
put_first at k n xs ys low fits = let long = length-take-le at xs low in
    take-add at n (put_mid at k xs ys)
    ∙ ap (λ (l : List ℕ). l ++ take n (drop at (put_mid at k xs ys))) (take_at (take at xs) (ys ++ post_of at k xs) at long)
    ∙ ap (λ (l : List ℕ). take at xs ++ l) (ap (take n) (drop_at (take at xs) (ys ++ post_of at k xs) at long) ∙ take-append-le n ys (post_of at k xs) fits)

takes_put : (at k n : ℕ) (xs ys : List ℕ) (a b c : Option (List ℕ)) → at ≤ length xs → n ≤ length ys → Takes at xs a b → Takes n ys b c → Takes (at + n) (put_mid at k xs ys) a c
takes_put at k n xs ys None b c low fits first second = subst (λ (o : Option (List ℕ)). Takes n ys o c) first second
takes_put at k n xs ys (Some bytes) b c low fits first second = let more = subst (λ (o : Option (List ℕ)). Takes n ys o c) first.2 second in let left = length-drop at bytes in let there = first.0 in let there' = more.0 in (
  omega (arith, left, there, there'),
  put_first at k n xs ys low fits ∙ ap (λ (l : List ℕ). l ++ take n ys) first.1 ∙ ap (λ (l : List ℕ). take at bytes ++ l) more.1 ∙ sym (take-add at n bytes),
  more.2 ∙ ap (λ (l : List ℕ). Some l) (drop-drop n at bytes),
)

mid_long : (at : ℕ) (xs : List ℕ) → at < length xs → length (mid_of at (length xs - at) xs) ≡ length xs - at
mid_long at xs below = length-take-le (length xs - at) (drop at xs) (let left = length-drop at xs in omega (arith, left))

pub takes_next : (at n long : ℕ) (xs ys : List ℕ) (a b c : Option (List ℕ)) (faults f : ℕ) → IsTakenUpto at long xs a b faults f → at < length xs → length ys ≡ length (mid_of at (length xs - at) xs) → n ≤ length (mid_of at (length xs - at) xs) → Takes n ys b c → Takes (at + n) (put_mid at (length xs - at) xs ys) a c
takes_next at n long xs ys a b c faults f h below size fits takes = takes_put at (length xs - at) n xs ys a b c (omega (arith, below)) (omega (arith, size, fits)) h.taken takes

-- a call more
pub taken_more : (at n long : ℕ) (xs ys : List ℕ) (a b c : Option (List ℕ)) (faults f g : ℕ) → IsTakenUpto at long xs a b faults f → at < length xs → length ys ≡ length (mid_of at (length xs - at) xs) → n ≤ length (mid_of at (length xs - at) xs) → Takes n ys b c → g ≡ f
    → IsTakenUpto (at + n) long (put_mid at (length xs - at) xs ys) a c faults g
taken_more at n long xs ys a b c faults f g h below size fits takes same = record {
  within = (let x = h.size in let y = mid_long at xs below in omega (arith, x, y, fits, below));
  size = same_len_mid at (length xs - at) xs ys size ∙ h.size;
  taken = takes_next at n long xs ys a b c faults f h below size fits takes;
  faults_are = same ∙ h.faults_are;
}

-- a call that gave nothing
pub taken_none : (at n long : ℕ) (xs ys : List ℕ) (a b c : Option (List ℕ)) (faults f : ℕ) → IsTakenUpto at long xs a b faults f → at < length xs → length ys ≡ length (mid_of at (length xs - at) xs) → n ≤ length (mid_of at (length xs - at) xs) → Takes n ys b c → n ≡ 0 → Takes at (put_mid at (length xs - at) xs ys) a c
taken_none at n long xs ys a b c faults f h below size fits takes none = subst (λ (m : ℕ). Takes m (put_mid at (length xs - at) xs ys) a c) (omega (arith, none)) (takes_next at n long xs ys a b c faults f h below size fits takes)
