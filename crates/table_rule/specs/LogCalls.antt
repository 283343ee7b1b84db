-- The record of a page, and what a call of the log makes of its device.
use Rattle.std.specs.Prelude.{◌≡◌, ℕ, ◌+◌, Bool, true, false, List, ◌++◌, length, Option, None, option_map, IfSome, IsSomeAnd}
use Rattle.byte_devices.specs.Bytes.{GainsPrefix}
use Rattle.byte_devices.specs.Faults.{Rose}
use Rattle.block_tag.specs.declared.tag.Tag.{Tag}
use Rattle.block_tag.specs.declared.catalogue.RelEntry.{RelEntry}
use Rattle.block_tag.specs.Names.{packed_tag}
use Rattle.pin_core.specs.State.{Page}
use Rattle.history_core.specs.Log.{image, record_bytes}
use Rattle.table_rule.specs.declared.noted_log.LogCall.{LogCall}
use Rattle.table_rule.specs.declared.noted_log.LogCall.TheVariants as log_call
use Rattle.table_rule.specs.Blocks.{block_name}

-- the record of the entry of a page, which starts at this position, if the block's relation is this
abbrev pub block_record : RelEntry → Tag → ℕ → Page → List ℕ
block_record e tag start page = record_bytes (λ _. block_name e tag) (record {
  start = start;
  backend = 0;
  change = image (packed_tag tag) page;
})

-- the call is an append of these bytes, for this page of a frame's block, and it was done
abbrev pub IsAppended : ℕ → Tag → Page → List ℕ → LogCall → Type 0
IsAppended f tag page piece (log_call.Appended g named shown bytes) = (g ≡ f) × (named ≡ tag)
    × (shown.value ≡ page) × (bytes.value.items ≡ piece)
IsAppended f tag page piece _ = ⊥

-- or it failed
abbrev pub IsFailedAppend : ℕ → Tag → Page → List ℕ → LogCall → Type 0
IsFailedAppend f tag page piece (log_call.AppendFailed g named shown bytes) = (g ≡ f)
    × (named ≡ tag) × (shown.value ≡ page) × (bytes.value.items ≡ piece)
IsFailedAppend f tag page piece _ = ⊥

-- whether a call failed
abbrev pub has_failed : LogCall → Bool
has_failed (log_call.AppendFailed f tag page bytes) = true
has_failed log_call.SyncFailed = true
has_failed _ = false

-- A log tells its bytes, if they are known, how many of them are durable, how many calls failed,
-- and how many were made
module _ {G : Type 0} (bytes : G → Option (List ℕ)) (synced faults calls : G → ℕ) where
  -- the piece follows the bytes that were there
  pub record HasAppended (piece : List ℕ) (g g' : G) : Type 0 where
    pub added : bytes g' ≡ option_map (λ old. old ++ piece) (bytes g)
    pub durable : IfSome (bytes g) (λ _. synced g' ≡ synced g)
    pub counted : faults g' ≡ faults g
    pub called : calls g' ≡ calls g + 1

  -- first bytes of the piece, none, some or all, do
  pub record HasFailedToAppend (piece : List ℕ) (g g' : G) : Type 0 where
    pub added : IfSome (bytes g) (λ old. IsSomeAnd (bytes g') (GainsPrefix piece old))
    pub unknown : bytes g ≡ None → bytes g' ≡ None
    pub durable : IfSome (bytes g) (λ _. synced g' ≡ synced g)
    pub counted : Rose (faults g) (faults g')
    pub called : calls g' ≡ calls g + 1

  -- all bytes are durable
  pub record HasSynced (g g' : G) : Type 0 where
    pub same : bytes g' ≡ bytes g
    pub durable : IfSome (bytes g) (λ known. synced g' ≡ length known)
    pub counted : faults g' ≡ faults g
    pub called : calls g' ≡ calls g + 1

  -- as many as before are
  pub record HasFailedToSync (g g' : G) : Type 0 where
    pub same : bytes g' ≡ bytes g
    pub durable : IfSome (bytes g) (λ _. synced g' ≡ synced g)
    pub counted : Rose (faults g) (faults g')
    pub called : calls g' ≡ calls g + 1

  -- What a call made of the device g
  abbrev pub LogDid : G → G → LogCall → Type 0
  LogDid g g' log_call.Untouched = g' ≡ g
  LogDid g g' (log_call.Appended f tag page piece) = HasAppended piece.value.items g g'
  LogDid g g' (log_call.AppendFailed f tag page piece) = HasFailedToAppend piece.value.items g g'
  LogDid g g' log_call.Synced = HasSynced g g'
  LogDid g g' log_call.SyncFailed = HasFailedToSync g g'
