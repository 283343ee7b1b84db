-- A manager and its passes.
use Rattle.std.specs.Prelude.{◌≡◌, ◌≢◌, ◌+◌, ◌<◌, ◌≤◌, ℕ, List, [], ◌∷◌, length, take, get_or, true}
use Rattle.std.specs.Prelude.{false, nat_eq, Bool, Option, Some, if◌then◌else◌}
use mathlib.Core.Option.{some}
use lib.ListN.{get_elem?}
use Rattle.std.specs.Global.{Vec}
use Rattle.block_tag.specs.declared.catalogue.RelEntry.{RelEntry}
use Rattle.block_tag.specs.declared.tag.Tag.{Tag}
use Rattle.block_tag.specs.Names.{names_block, packed_tag}
use Rattle.segment_store.specs.Contents.{Pages}
use Rattle.table_rule.specs.declared.config.Config.{Config}
use Rattle.atomic_table.specs.Seated.{TableId}
use Rattle.pin_core.specs.declared.view.View.{View}
use Rattle.pin_core.specs.State.{emptied_view, new_view}
use Rattle.history_core.specs.Log.{IsFront}
use Rattle.table_rule.specs.Blocks.{is_block}
use Rattle.grid.specs.Shape.{total}
use Rattle.clock_sweep.specs.CensusList.{new_census}
use Rattle.clock_sweep.specs.FreeFrames.{all_parts}
use Rattle.clock_sweep.specs.FreeLists.{IsFreeList}
use Rattle.frame_table.specs.Opened.{WasSoundAtOpening}
use Rattle.frame_table.specs.Seats.{base_of, frames_of, lanes_in, relations_of}
use Rattle.io_counts.specs.Counts.{no_io}
use Rattle.buffer_frames.specs.Tokens.{HeldFrame, held_at, no_tokens}
use Rattle.buffer_frames.specs.declared.hinting.HintSeen.TheVariants.{Unused}
use Rattle.backend_pass.specs.declared.manager.Manager.{Manager}
use Rattle.backend_pass.specs.Passes.{PassState}

module _ {L G : Type 0} where
  -- The manager was opened with these numbers, relations and devices, over a log that begins at
  -- `base`
  pub record OpenedWith (config : Config) (catalog : List RelEntry) (lanes : Vec L) (log : G)
      (base : ℕ) (m : Manager L G) : Type 0 where
    pub config_is : m.table.table.shared.key.config ≡ config
    pub catalog_is : m.table.table.shared.key.catalog.value ≡ catalog
    pub lanes_are : m.table.table.shared.key.lanes.value ≡ lanes
    pub log_is : m.table.table.shared.key.log.value ≡ log
    pub base_is : m.table.table.shared.key.base ≡ base

  -- The pass is one of the manager's.
  -- A pass has no type parameter for its devices. So what depends on them, as that its blocks were
  -- sound at the opening, is said here.
  pub record Belongs (contents : L → Option Pages) (m : Manager L G) (p : PassState) : Type 0 where
    pub table : p.table ≡ m.table.table.shared.table_id
    pub frames : p.census.frames ≡ frames_of m.table
    -- it has a pass of the manager's free list
    pub queue : IsFreeList m.table m.sweep p.queue
    -- its tokens are of frames of the pool, which have blocks of the relations
    pub inside : (f : ℕ) (h : HeldFrame) → held_at p.tokens f ≡ Some h → f < frames_of m.table
    pub blocks : (f : ℕ) (h : HeldFrame) → held_at p.tokens f ≡ Some h
        → is_block (relations_of m.table) h.tag ≡ true
    -- no two of its tokens are of one block
    pub alone : (f g : ℕ) (h k : HeldFrame) → held_at p.tokens f ≡ Some h
        → held_at p.tokens g ≡ Some k → h.tag ≡ k.tag → f ≡ g
    -- the blocks of its tokens were sound as the table was opened, if the lanes' contents then are
    -- known
    pub sound : (f : ℕ) (h : HeldFrame) → held_at p.tokens f ≡ Some h → (tag : Tag)
        → packed_tag tag ≡ h.tag → names_block tag ≡ true → WasSoundAtOpening contents m.table tag
    -- its front is the largest place of what it has read and put, and before that where the log
    -- begins
    pub front : IsFront (base_of m.table) p.view.calls p.view.front
    -- it has seen an end of the log, or the beginning
    pub seen : base_of m.table ≤ p.view.end_seen

  -- The pass number i of a manager's `passes`, which has done nothing yet
  pub record IsNewPass (contents : L → Option Pages) (m : Manager L G) (passes i : ℕ)
      (p : PassState) : Type 0 where
    pub belongs : Belongs contents m p
    pub tokens : p.tokens ≡ no_tokens
    pub census : p.census ≡ new_census (frames_of m.table)
    pub hint : p.hint ≡ Unused
    pub io : p.io ≡ no_io
    -- its view is that of a new backend, but for the next number that it gives
    pub view : p.view
        ≡ record (new_view i (base_of m.table) (frames_of m.table) 128
        (lanes_in m.table)) { next = p.view.next }
    -- the first one has given the numbers of all others
    pub next : i ≡ 0 → p.view.next ≡ passes
    -- it pushed no frame on the free list, and took none. Each other has one part of it, and the
    -- first one what is left
    pub pushed : p.queue.known.pushed ≡ []
    pub taken : p.queue.known.taken ≡ []
    pub rest : i ≡ 0 → p.queue.known.parts + passes ≡ all_parts + 1
    pub part : i ≢ 0 → p.queue.known.parts ≡ 1

  -- These are all passes of a new manager, in the order of their numbers
  pub record AreNewPasses (contents : L → Option Pages) (m : Manager L G) (passes : ℕ)
      (ps : List PassState) : Type 0 where
    pub counted : length ps ≡ passes
    pub each : (i : ℕ) (p : PassState) → get_elem? ps i ≡ some p → IsNewPass contents m passes i p

-- whether it is the first pass, that of number 0
abbrev pub is_first : PassState → Bool
is_first p = nat_eq p.view.number 0

-- the view of the first pass, and the other passes
abbrev pub first_in : List PassState → View
first_in [] = emptied_view
first_in (p ∷ ps) = if is_first p then p.view else first_in ps

abbrev pub others_in : List PassState → List PassState
others_in [] = []
others_in (p ∷ ps) = if is_first p then ps else p ∷ others_in ps

-- none is the first, and the first stands at this place
abbrev pub AreOthers : List PassState → Type 0
AreOthers [] = Unit {0}
AreOthers (p ∷ ps) = (is_first p ≡ false) × AreOthers ps

pub record IsFirstAt (place : ℕ) (ps : List PassState) : Type 0 where
  pub inside : place < length ps
  pub before : AreOthers (take place ps)
  pub here : (p : PassState) → p ≡ get_or ps place p → is_first p ≡ true

-- each pass is of the table, and has no token
abbrev pub AreSpent : TableId → List PassState → Type 0
AreSpent table [] = Unit {0}
AreSpent table (p ∷ ps) = (p.table ≡ table) × (p.tokens ≡ no_tokens) × AreSpent table ps

-- the front of each is the largest place of what it has read and put, over a log that begins at
-- `base`
abbrev pub AreFronted : ℕ → List PassState → Type 0
AreFronted base [] = Unit {0}
AreFronted base (p ∷ ps) = IsFront base p.view.calls p.view.front × AreFronted base ps

module _ {L G : Type 0} where
  -- each has a pass of the manager's free list
  abbrev pub HaveQueues : Manager L G → List PassState → Type 0
  HaveQueues m [] = Unit {0}
  HaveQueues m (p ∷ ps) = IsFreeList m.table m.sweep p.queue × HaveQueues m ps

  -- The passes are all that the manager gave, in any order, and none has a token
  pub record AreAll (m : Manager L G) (ps : List PassState) : Type 0 where
    pub nonempty : 0 < length ps
    -- as many as the first one has given numbers for; it has taken in none
    pub counted : length ps ≡ (first_in ps).next
    pub joined : (first_in ps).joined ≡ 0
    pub spent : AreSpent m.table.table.shared.table_id ps
    pub fronts : AreFronted (base_of m.table) ps
    -- together they have all parts of the free list
    pub queues : HaveQueues m ps
    pub parts : total (λ (p : PassState). p.queue.known.parts) ps ≡ all_parts
