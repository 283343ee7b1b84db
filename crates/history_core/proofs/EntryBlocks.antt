-- Each entry of a block is of one of the relations' blocks.
use Rattle.std.proofs.Common.{◌≡◌, ℕ, true, nat_lt, Some, sym, ap, ◌∙◌, subst, ⊎_elim}
use Rattle.std.proofs.lemmas.Option.{same_Some}
use mathlib.Core.Option.{some-ne-none}
use Rattle.pin_core.specs.State.{is_block, tag_block, tag_fork}
use Rattle.history_core.specs.Log.{IsEntryOf, tag_in}
use Rattle.history_core.specs.State.{State}
use Rattle.history_core.specs.Laws.{Laws}
use Rattle.history_core.specs.Histories.{EntriesAreOfBlocks}
use Rattle.history_core.specs.Steps.{pools, lanes, writes, notes, logs, enters, reads, words, new_entry, reads_size}
use Rattle.history_core.proofs.Always.{KeptByLaws, always}
use Rattle.history_core.proofs.Logs.{entry_longer}
use Rattle.history_core.proofs.Stepping.{named, of_block, frame_block, pool_sizes}

of_blocks_kept : KeptByLaws EntriesAreOfBlocks
of_blocks_kept e s t (enters i f p c v there live inside x) laws h = λ tag k d of. ⊎_elim
    (λ (was : IsEntryOf s.log.entries tag k d). h tag k d was)
    (λ (is : (new_entry s v.number c ≡ d) × (tag_in c ≡ Some tag)). subst (λ (z : ℕ). is_block s.pool.core z ≡ true)
    (same_Some (s.pool.core.frame f).tag tag (sym (of_block s laws.invariant i f p c v there live inside x) ∙ is.1))
    (frame_block s laws.invariant f inside (named s laws.invariant i f p c v there live inside x)))
    (entry_longer s.log.entries (new_entry s v.number c) tag k d of)
of_blocks_kept e s t (pools x a) laws h = λ tag k d of. ap (λ (n : ℕ). nat_lt (tag_block tag) n) (pool_sizes s laws.invariant x (tag_fork tag)) ∙ h tag k d of
of_blocks_kept e s t (lanes i q k v there live low a alone) laws h = h
of_blocks_kept e s t (writes i q f k v there live low inside a x) laws h = h
of_blocks_kept e s t (notes i q f noted k v there live low inside a x) laws h = h
of_blocks_kept e s t (logs i k v there live a record_is) laws h = h
of_blocks_kept e s t (reads i f z p v there live inside a) laws h = h
of_blocks_kept e s t (reads_size i fork v there live a) laws h = h
of_blocks_kept e s t (words i k v there live a) laws h = h

pub entries_of_blocks : (s : State) → Laws s → EntriesAreOfBlocks s
entries_of_blocks s h = always EntriesAreOfBlocks of_blocks_kept s h.reached (λ tag k e of. absurd (some-ne-none e (sym of.there)))
