-- A checkpoint that has nothing left to write.
use Rattle.std.proofs.Common.{◌≡◌, ℕ, zero, suc, ◌<◌, Bool, true, false, List, [], ◌∷◌, length, slice_index_or, refl, arith}
use Rattle.std.specs.Prelude.{not, ◌&&◌, if◌then◌else◌}
use Rattle.pin_core.specs.declared.view.Link.{Link}
use Rattle.pin_core.specs.declared.view.View.{View}
use Rattle.pin_core.specs.State.{idle}
use Rattle.history_core.specs.Lanes.{all_ended, swept_by}
use Rattle.checkpointer.specs.Marked.{HasNoneLeft}

all_three : (a b c : Bool) → a ≡ true → b ≡ false → c ≡ true → (a && not b && c) ≡ true
all_three true false true x y z = refl
all_three false b c x y z = absurd (cc)
all_three true true c x y z = absurd (cc)
all_three true false false x y z = absurd (cc)

ended_all : (ls : List Link) → ((f : ℕ) → f < length ls → ((slice_index_or ls f idle).visited ≡ true) × ((slice_index_or ls f idle).left_to_write ≡ false)) → all_ended ls ≡ true
ended_all [] h = refl
ended_all (l ∷ ls) h = let here = h zero (omega arith) in all_three l.visited l.left_to_write (all_ended ls) here.0 here.1 (ended_all ls (λ f low. h (suc f) (omega arith)))

when_ended : (b : Bool) (n : ℕ) → b ≡ true → (if b then n else 0) ≡ n
when_ended true n e = refl
when_ended false n e = absurd (cc)

pub swept_to : (frames : ℕ) (v : View) → length v.links ≡ frames → HasNoneLeft frames v → swept_by v ≡ v.upto
swept_to frames v wide h = when_ended (all_ended v.links) v.upto (ended_all v.links (λ f low. h f (omega arith)))
