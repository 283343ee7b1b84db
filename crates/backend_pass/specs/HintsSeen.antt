-- What a read tells of its block's hint.
use Rattle.std.specs.Prelude.{◌≡◌, ℕ, Bool, List, Result, Ok, Err}
use Rattle.block_tag.specs.declared.tag.Tag.{Tag}
use Rattle.pin_core.specs.declared.view.HintStore.{HintStore}
use Rattle.pin_core.specs.declared.view.View.{View}
use Rattle.buffer_frames.specs.Tokens.{Tokens}
use Rattle.buffer_frames.specs.declared.hinting.HintSeen.{HintSeen}
use Rattle.buffer_frames.specs.declared.hinting.HintSeen.TheVariants.{Unused, Had}
use Rattle.buffer_frames.specs.Hinting.{HasByHint, LeavesHint, SeesHint}
use Rattle.buffer_frames.specs.Working.{Within}
use Rattle.backend_pass.specs.declared.errors.ReadError.{ReadError}
use Rattle.backend_pass.specs.declared.errors.ReadError.TheVariants.{ReadFault, Unsound}
use Rattle.backend_pass.specs.declared.pinned.Pinned.{Pinned}

-- the hint was not loaded, or it gave the frame
abbrev pub IsUnusedOrHad : HintSeen → Type 0
IsUnusedOrHad Unused = Unit {0}
IsUnusedOrHad (Had f) = Unit {0}
IsUnusedOrHad _ = ⊥

-- What is told of a block's hint was seen in the call, which found the view v, and left w. If the
-- hint was not loaded, nothing was done
abbrev pub ShowsHint : ℕ → Tag → Tokens → Bool → View → View → HintSeen → Type 0
ShowsHint n tag held ring v w Unused = w ≡ v
ShowsHint n tag held ring v w (Had f) = Within (HasByHint n tag f ring) v w
ShowsHint n tag held ring v w seen = Within (λ a b. SeesHint n tag held ring a b seen) v w

-- What a read has stored of hints, by its answer. A refusal has stored none, unless the block had a
-- frame and its page didn't come
abbrev pub StoresHints : ℕ → Tag → HintSeen → List HintStore → List HintStore
    → Result Pinned ReadError → Type 0
StoresHints n tag seen old new (Ok pinned) = LeavesHint n tag pinned.frame seen old new
StoresHints n tag seen old new (Err (ReadFault failed)) = (f : ℕ) × LeavesHint n tag f seen old new
StoresHints n tag seen old new (Err (Unsound failed)) = (f : ℕ) × LeavesHint n tag f seen old new
StoresHints n tag seen old new (Err why) = new ≡ old
