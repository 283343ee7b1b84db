-- Hints that are loaded and stored.
use Rattle.std.proofs.Common.{◌≡◌, ℕ, ◌<◌, ◌≤◌, Bool, List, [], ◌∷◌, Option, Some, None, sym, ap, subst, arith}
use Rattle.std.specs.Prelude.{IfOk, MatchResult, Result, Ok, Err}
use Rattle.block_tag.specs.declared.tag.Tag.{Tag}
use Rattle.pin_core.specs.declared.view.HintStore.{HintStore}
use Rattle.pin_core.specs.declared.view.LoadedWord.TheVariants as seen
use Rattle.pin_core.specs.declared.view.View.{View}
use Rattle.pin_core.specs.Kinds.{load_of}
use Rattle.frame_table.specs.declared.pin.Pin.{Pin}
use Rattle.frame_table.specs.Seats.{Grows}
use Rattle.frame_table.proofs.Rising.{grows_loads, grows_steps}
use Rattle.map_partitions.specs.Hints.{LoadsHint, StoresHint, hint_number, hint_value}
use Rattle.buffer_frames.specs.Tokens.{Tokens, held_at}
use Rattle.buffer_frames.specs.declared.hinting.HintSeen.{HintSeen}
use Rattle.buffer_frames.specs.declared.hinting.HintSeen.TheVariants.{Unused, Nothing, Own, Had}
use Rattle.buffer_frames.specs.Hinting.{HasByHint, NotesHint, LeavesHint, PinsHinted, SeesHint, SeesOther, TakesTurns}
use Rattle.buffer_frames.specs.Outside.{outside_of, searched_of}

-- a hint is loaded
module _ (n : ℕ) (tag : Tag) (frame : Option ℕ) (v w : View) (d : LoadsHint n tag frame v w) where
  pub load_outside : outside_of w ≡ outside_of v
  load_outside = ap outside_of d.after

  pub load_grows : Grows v w
  load_grows = grows_loads (load_of v (seen.Hint (hint_number tag n) (hint_value frame)) ∷ []) v w (ap (λ (x : View). x.loads) d.after) (ap (λ (x : View). x.changes) d.after) (ap (λ (x : View). x.residents) d.after) (let a = ap (λ (x : View). x.steps) d.after in omega arith)

  pub load_links : w.links ≡ v.links
  load_links = ap (λ (x : View). x.links) d.after

  pub load_partitions : w.partitions ≡ v.partitions
  load_partitions = ap (λ (x : View). x.partitions) d.after

-- then the frame that it named was tried
module _ (n : ℕ) (tag : Tag) (held : Tokens) (f : ℕ) (ring : Bool) (v u w : View) (load : LoadsHint n tag (Some f) v u) (new : held_at held f ≡ None) where
  other_hint : (seen : HintSeen) → SeesOther tag f ring u w seen → SeesHint n tag held ring v w seen
  other_hint Unused s = absurd s
  other_hint Nothing s = absurd s
  other_hint (Own g) s = absurd s
  other_hint (Had g) s = absurd s
  other_hint _ s = record { frame = f; new = new; loaded = u; load = load; sees = s }

  pub tried_hint : (r : Result Pin HintSeen) → IfOk r (λ p. p.frame ≡ f) → MatchResult r (λ p. PinsHinted tag p.frame ring u w) (SeesOther tag f ring u w) → MatchResult r (λ p. HasByHint n tag p.frame ring v w) (SeesHint n tag held ring v w)
  tried_hint (Ok p) e s = record { loaded = u; load = subst (λ (g : ℕ). LoadsHint n tag (Some g) v u) (sym e) load; pins = s }
  tried_hint (Err seen) e s = other_hint seen s

-- a hint is stored
module _ (n : ℕ) (tag : Tag) (f : ℕ) (v w : View) (s : StoresHint n tag f v w) where
  pub store_searched : searched_of w ≡ searched_of v
  store_searched = ap searched_of s.did.after

  pub store_grows : Grows v w
  store_grows = grows_steps v w (ap (λ (x : View). x.loads) s.did.after) (ap (λ (x : View). x.changes) s.did.after) (ap (λ (x : View). x.residents) s.did.after) (let a = ap (λ (x : View). x.steps) s.did.after in omega arith)

  pub store_links : w.links ≡ v.links
  store_links = ap (λ (x : View). x.links) s.did.after

  pub store_partitions : w.partitions ≡ v.partitions
  store_partitions = ap (λ (x : View). x.partitions) s.did.after

  pub store_turns : w.turns ≡ v.turns
  store_turns = ap (λ (x : View). x.turns) s.did.after

  pub store_notes : (old : List HintStore) → v.hints ≡ old → NotesHint n tag f old w.hints
  store_notes old e = subst (λ (l : List HintStore). NotesHint n tag f l w.hints) e record { found = s.found; listed = ap (λ (x : View). x.hints) s.did.after }

-- where the hint gave no frame it is stored, and a latch is taken
module _ (n : ℕ) (tag : Tag) (held : Tokens) (ring : Bool) (v w : View) where
  pub notes_missed : (seen : HintSeen) → SeesHint n tag held ring v w seen → (f : ℕ) (old new : List HintStore) → NotesHint n tag f old new → LeavesHint n tag f seen old new
  notes_missed Unused s f old new h = absurd s
  notes_missed (Had g) s f old new h = absurd s
  notes_missed _ s f old new h = h

  pub takes_missed : (seen : HintSeen) → SeesHint n tag held ring v w seen → (before after : ℕ) → before < after → TakesTurns seen before after
  takes_missed Unused s before after less = absurd s
  takes_missed (Had g) s before after less = absurd s
  takes_missed _ s before after less = less

  -- also where more are taken after that
  pub takes_on : (seen : HintSeen) → SeesHint n tag held ring v w seen → (before between after : ℕ) → TakesTurns seen before between → between ≤ after → TakesTurns seen before after
  takes_on Unused s before between after takes more = absurd s
  takes_on (Had g) s before between after takes more = absurd s
  takes_on _ s before between after takes more = let less : before < between = takes in omega arith
