-- What a command line asks for, with its texts as bytes.
use Rattle.std.specs.Prelude.{◌≡◌, ℕ, ◌≤◌, Bool, true, false, List, Option, Some, None}
use Rattle.command_line.specs.declared.numbers.Options.{Options}
use Rattle.command_line.specs.declared.request.Request.{Request}
use Rattle.command_line.specs.declared.request.Request.TheVariants as request
use Rattle.command_line.specs.declared.request.ListRequest.{ListRequest}
use Rattle.command_line.specs.declared.request.Listing.{Listing}
use Rattle.command_line.specs.declared.request.RecoverRequest.{RecoverRequest}
use Rattle.command_line.specs.declared.request.RewriteRequest.{RewriteRequest}
use Rattle.command_line.specs.declared.request.SampleRequest.{SampleRequest}

-- a scan or a dump of the relation at a path
pub record ListingAsked : Type 0 where
  pub path : List ℕ
  pub options : Options
  pub listing : Listing
  -- whether its I/O counts are asked for
  pub stats : Bool

-- a command on the relation at a path with a log at another: a rewrite, or a recovery
pub record LoggedAsked : Type 0 where
  pub path : List ℕ
  pub log : List ℕ
  pub options : Options

-- a rewrite in memory of the first blocks of the relation that is made from a seed
pub record SampleAsked : Type 0 where
  pub seed : ℕ
  pub blocks : ℕ
  pub options : Options

pub data Asked : Type 0 where
  listing : ListingAsked → Asked
  rewriting : LoggedAsked → Asked
  recovering : LoggedAsked → Asked
  sampling : SampleAsked → Asked

abbrev pub listing_asked : ListRequest → ListingAsked
listing_asked l = record {
  path = l.path.now;
  options = l.options;
  listing = l.listing;
  stats = l.stats;
}

abbrev pub rewrite_asked : RewriteRequest → LoggedAsked
rewrite_asked r = record { path = r.path.now; log = r.log.now; options = r.options }

-- a recovery has no buffer manager: one backend and the frames by default stand here, which are
-- enough
abbrev pub recover_options : ℕ → ℕ → Options
recover_options lanes seg_blocks =
    record { backends = 1; frames = 128; lanes = lanes; seg_blocks = seg_blocks; rounds = 0 }

abbrev pub recover_asked : RecoverRequest → LoggedAsked
recover_asked r =
    record { path = r.path.now; log = r.log.now; options = recover_options r.lanes r.seg_blocks }

abbrev pub sample_asked : SampleRequest → SampleAsked
sample_asked s = record { seed = s.seed; blocks = s.blocks; options = s.options }

abbrev pub asked : Request → Asked
asked (request.List l) = listing (listing_asked l)
asked (request.Rewrite r) = rewriting (rewrite_asked r)
asked (request.Recover r) = recovering (recover_asked r)
asked (request.Sample s) = sampling (sample_asked s)

-- the relation's path; a sample has none
abbrev pub path_of : Asked → Option (List ℕ)
path_of (listing l) = Some l.path
path_of (rewriting r) = Some r.path
path_of (recovering r) = Some r.path
path_of (sampling s) = None

-- the path of the log that a recovery redoes; no other command has one
abbrev pub log_path_of : Asked → Option (List ℕ)
log_path_of (listing l) = None
log_path_of (rewriting r) = None
log_path_of (recovering r) = Some r.log
log_path_of (sampling s) = None

abbrev pub options_of : Asked → Options
options_of (listing l) = l.options
options_of (rewriting r) = r.options
options_of (recovering r) = r.options
options_of (sampling s) = s.options

-- whether the relation at a path is rewritten
abbrev pub is_rewriting : Asked → Bool
is_rewriting (listing l) = false
is_rewriting (rewriting r) = true
is_rewriting (recovering r) = false
is_rewriting (sampling s) = false

-- whether blocks are listed
abbrev pub is_listing : Asked → Bool
is_listing (listing l) = true
is_listing (rewriting r) = false
is_listing (recovering r) = false
is_listing (sampling s) = false

-- whether pages of the relation at a path are written
abbrev pub is_writing : Asked → Bool
is_writing (listing l) = false
is_writing (rewriting r) = true
is_writing (recovering r) = true
is_writing (sampling s) = false

-- the most blocks that a sample can have
abbrev pub HasSampleSize : Asked → Type 0
HasSampleSize (listing l) = Unit {0}
HasSampleSize (rewriting r) = Unit {0}
HasSampleSize (recovering r) = Unit {0}
HasSampleSize (sampling s) = s.blocks ≤ 16384

-- no path is asked for: by a sample, or by words that are no command
abbrev pub NamesNoPath : Option Asked → Type 0
NamesNoPath None = Unit {0}
NamesNoPath (Some a) = path_of a ≡ None
