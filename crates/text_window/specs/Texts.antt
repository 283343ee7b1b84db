-- The texts of chunks: those that wait in a window, and those that were put.
use Rattle.std.specs.Prelude.{◌≡◌, ℕ, zero, suc, ◌+◌, ◌-◌, ◌<◌, ◌≤◌, ◌^◌, Bool, true, false}
use Rattle.std.specs.Prelude.{MatchBool, List, [], ◌∷◌, ◌++◌, length, Option, Some, None, IfSome}
use Rattle.std.specs.Prelude.{IsSomeAnd, option_map, slice_index_or}
use Rattle.std.specs.Option.{option_or}
use Rattle.byte_devices.specs.Bytes.{GainsPrefix}
use Rattle.byte_devices.specs.Faults.{Rose}
use Rattle.text_window.specs.declared.window.Stop.{Stop}
use Rattle.text_window.specs.declared.window.Stop.TheVariants.{Output, Worker}

-- how many chunks there are, and how many texts may wait; where the log begins; the sink's bytes
-- before the job, and its count of faults
pub record Job : Type 0 where
  pub chunks : ℕ
  pub width : ℕ
  pub base : ℕ
  pub before : Option (List ℕ)
  pub faults : ℕ

-- the texts of the first n chunks, one after the other
abbrev pub AreFirstTexts : (ℕ → List ℕ → Type 0) → ℕ → List ℕ → Type 0
AreFirstTexts texts zero t = t ≡ []
AreFirstTexts texts (suc n) t =
    (a : List ℕ) × (x : List ℕ) × (t ≡ a ++ x) × AreFirstTexts texts n a × texts n x

-- this may be the text of the chunk: nothing of it was read past some place up to the largest
abbrev pub IsTextBy : (ℕ → ℕ → List ℕ → Type 0) → ℕ → ℕ → List ℕ → Type 0
IsTextBy texts largest chunk text = (place : ℕ) × (place ≤ largest) × texts place chunk text

-- how many texts wait
abbrev pub waiting_count : List (Option (List ℕ)) → ℕ
waiting_count [] = 0
waiting_count (None ∷ ws) = waiting_count ws
waiting_count (Some t ∷ ws) = 1 + waiting_count ws

-- whether a put failed, and which worker did
abbrev pub is_output : Option Stop → Bool
is_output None = false
is_output (Some Output) = true
is_output (Some (Worker n)) = false

abbrev pub worker_of : Option Stop → Option ℕ
worker_of None = None
worker_of (Some Output) = None
worker_of (Some (Worker n)) = Some n

-- What contracts see of a window
pub record WindowState : Type 0 where
  pub stop : Option Stop
  pub largest : ℕ
  pub next : ℕ
  pub waiting : List (Option (List ℕ))
  pub bytes : Option (List ℕ)
  pub faults : ℕ
  pub delivered : ℕ
  pub above : ℕ

-- the window has a free slot for the text of this chunk
abbrev pub HasFreeSlot : WindowState → ℕ → Type 0
HasFreeSlot s chunk =
    (s.next ≤ chunk) × (chunk - s.next < length s.waiting)
    × (slice_index_or s.waiting (chunk - s.next) None ≡ None)

-- the window once this worker failed: the first stop stays
abbrev pub stopped_for : ℕ → WindowState → WindowState
stopped_for worker s = record s { stop = option_or s.stop (Some (Worker worker)) }

module _ (texts : ℕ → ℕ → List ℕ → Type 0) (job : Job) where
  -- the texts that wait, from this chunk on
  abbrev pub AreWaiting : ℕ → ℕ → List (Option (List ℕ)) → Type 0
  AreWaiting largest c [] = Unit {0}
  AreWaiting largest c (None ∷ ws) = AreWaiting largest (c + 1) ws
  AreWaiting largest c (Some t ∷ ws) =
      (c < job.chunks) × IsTextBy texts largest c t × AreWaiting largest (c + 1) ws

  -- The sink has the texts of the first n chunks
  pub record HasPut (largest n : ℕ) (bytes : Option (List ℕ)) : Type 0 where
    pub front : List ℕ
    pub is : AreFirstTexts (IsTextBy texts largest) n front
    pub bytes_are : bytes ≡ option_map (λ b. b ++ front) job.before

  -- The sink has the texts of the first n chunks, and maybe a prefix of the next one
  pub record HasPutPart (largest n : ℕ) (bytes : Option (List ℕ)) : Type 0 where
    pub front : List ℕ
    pub is : AreFirstTexts (IsTextBy texts largest) n front
    pub within : n < job.chunks
    pub piece : List ℕ
    pub text : IsTextBy texts largest n piece
    pub part : IfSome job.before (λ b. IsSomeAnd bytes (GainsPrefix piece (b ++ front)))

  -- the sink has the texts of some first chunks, and, if a put failed, maybe a prefix of the next
  -- one
  abbrev pub HasPutSome : ℕ → Bool → Option (List ℕ) → Type 0
  HasPutSome largest true bytes = (n : ℕ) × HasPutPart largest n bytes
  HasPutSome largest false bytes = (n : ℕ) × (n ≤ job.chunks) × HasPut largest n bytes

  -- A stream of texts that goes on
  pub record IsStream (largest next : ℕ) (waiting : List (Option (List ℕ)))
      (bytes : Option (List ℕ)) : Type 0 where
    pub wide : length waiting ≡ job.width
    pub some : 0 < job.width
    pub within : next ≤ job.chunks
    pub each : AreWaiting largest next waiting
    pub put : HasPut largest next bytes

  -- A stream of texts that goes on no more, since a put failed
  pub record IsBroken (largest next : ℕ) (waiting : List (Option (List ℕ)))
      (bytes : Option (List ℕ)) : Type 0 where
    pub wide : length waiting ≡ job.width
    pub each : AreWaiting largest next waiting
    pub within : next < job.chunks
    pub put : HasPutPart largest next bytes

  -- What holds of a window whenever its lock is free
  pub record IsWindow (stop : Option Stop) (largest next : ℕ) (waiting : List (Option (List ℕ)))
      (bytes : Option (List ℕ)) (faults delivered above : ℕ) : Type 0 where
    pub few : job.chunks < 2 ^ 32
    pub lowest : job.base ≤ largest
    pub first : slice_index_or waiting 0 None ≡ None
    pub at_base : above ≡ 0 → largest ≡ job.base
    pub course : MatchBool (is_output stop)
        (IsBroken largest next waiting bytes × Rose job.faults faults)
        (IsStream largest next waiting bytes × (faults ≡ job.faults)
        × (delivered ≡ next + waiting_count waiting))

  -- What the sink has after a job in which `delivered` texts were delivered, `above` of them read
  -- past the base: the texts of some first chunks, and, if a put failed, maybe a prefix of the next
  -- one; those of all chunks, if no put failed and as many texts were delivered. Nothing of them
  -- was read past this place, which is the base if no text was
  pub record IsFinished (delivered above : ℕ) (output : Bool)
      (bytes : Option (List ℕ)) : Type 0 where
    pub place : ℕ
    pub at_base : above ≡ 0 → place ≡ job.base
    pub some : HasPutSome place output bytes
    pub whole : output ≡ false → delivered ≡ job.chunks → HasPut place job.chunks bytes
