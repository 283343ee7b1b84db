-- How many blocks a relation in memory may have.
use Rattle.std.proofs.Common.{◌≡◌, ℕ, ◌-◌, ◌*◌, ◌/◌, ◌%◌, ◌^◌, ◌<◌, ◌≤◌, Bool, cond, min, ap, ap₂, inl, inr, arith}
use Rattle.std.specs.Prelude.{nat_lt}
use Rattle.std.proofs.lemmas.Bool.{cases_lt, lt-ltb, le-ltb}
use Rattle.std.proofs.lemmas.Nat.{div_below, mod_below}
use Rattle.segment_store.specs.MemoryFile.{file_room}
use Rattle.segment_store.specs.declared.memory_file.MemFile.{MemFile}

pub no_room : (file : MemFile) (seg_blocks : ℕ) → file.blocks < seg_blocks → file_room file seg_blocks ≡ 0
unfolding file_room
no_room file seg_blocks short = ap (λ (b : Bool). cond b 0 (min (seg_blocks * file.count) (2 ^ 32 - 1))) (lt-ltb file.blocks seg_blocks short)

pub some_room : (file : MemFile) (seg_blocks : ℕ) → seg_blocks ≤ file.blocks → file_room file seg_blocks ≡ min (seg_blocks * file.count) (2 ^ 32 - 1)
unfolding file_room
some_room file seg_blocks fits = ap (λ (b : Bool). cond b 0 (min (seg_blocks * file.count) (2 ^ 32 - 1))) (le-ltb file.blocks seg_blocks fits)

pub room_stays : (old now : MemFile) (seg_blocks : ℕ) → now.count ≡ old.count → now.blocks ≡ old.blocks → file_room now seg_blocks ≡ file_room old seg_blocks
unfolding file_room
room_stays old now seg_blocks count blocks =
    ap₂ (λ (b c : ℕ). cond (nat_lt b seg_blocks) 0 (min (seg_blocks * c) (2 ^ 32 - 1))) blocks count

-- where a block within the room stands
pub record StandsWithin (file : MemFile) (seg_blocks block : ℕ) : Type 0 where
  pub some : 0 < seg_blocks
  pub segment : block / seg_blocks < file.count
  pub place : block % seg_blocks < file.blocks

pub within_room : (file : MemFile) (seg_blocks block : ℕ) → block < file_room file seg_blocks → StandsWithin file seg_blocks block
within_room file seg_blocks block within = elim (cases_lt file.blocks seg_blocks) [
  | inl short ↦ let none = no_room file seg_blocks short in absurd (omega arith)
  | inr fits ↦
      let room = some_room file seg_blocks fits in
      let some : 0 < seg_blocks = elim (cases_lt 0 seg_blocks) [
        | inl is ↦ is
        | inr not ↦
            let zero : seg_blocks ≡ 0 = omega arith in
            let none = ap (λ (n : ℕ). n * file.count) zero in
            absurd (omega arith)
      ] in
      let rest = mod_below block seg_blocks some in
      record {
        some = some;
        segment = div_below block seg_blocks file.count some (omega arith);
        place = omega arith;
      }
]
