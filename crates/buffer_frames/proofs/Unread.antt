-- A read that ends with an error.
use Rattle.std.proofs.Common.{◌≡◌, ℕ, Some, refl, sym, ap, ◌∙◌, subst}
use Rattle.std.specs.Prelude.{IfErr, Result, Ok, Err}
use Rattle.std.proofs.lemmas.Option.{none-some}
use Rattle.block_tag.specs.declared.tag.Tag.{Tag}
use Rattle.block_tag.specs.Names.{packed_tag}
use Rattle.state_word.specs.declared.word.IoEnd.TheVariants.{Bad}
use Rattle.state_word.specs.Fields.{fields, io_ended_fields, unlocked_fields}
use Rattle.pin_core.specs.declared.view.Io.TheVariants.{Input}
use Rattle.pin_core.specs.declared.view.View.{View}
use Rattle.pin_core.specs.State.{link}
use Rattle.frame_table.specs.Seats.{OnlyRises, ViewMarks}
use Rattle.content_locks.specs.Io.{EndsIo}
use Rattle.cleanup_lock.specs.Waking.{Woken}
use Rattle.frame_table.proofs.Rising.{rises_on}
use Rattle.buffer_frames.specs.declared.fetching.FetchError.{FetchError}
use Rattle.buffer_frames.specs.declared.fetching.FetchError.TheVariants.{Unsound}
use Rattle.buffer_frames.specs.declared.fetching.FetchedPage.{FetchedPage}
use Rattle.buffer_frames.specs.Fetching.{EndsUnread, FailsRead, NotesUnsound}
use Rattle.buffer_frames.specs.Outside.{outside_of}

pub ends_unread : (why : FetchError) (tag : Tag) (f g : ℕ) (v u w : View) → g ≡ f → OnlyRises v u → EndsIo Bad f u w → (link u g).io ≡ Input → (link u g).tag ≡ Some (packed_tag tag) → (why ≡ Unsound → NotesUnsound g u) → EndsUnread why tag f v w
ends_unread why tag f g v u w same since e right remembered unsound = let here = subst (λ (x : ℕ). (link u x).io ≡ Input) same right in let tagged = subst (λ (x : ℕ). (link u x).tag ≡ Some (packed_tag tag)) same remembered in record {
  begun = u;
  stored = unlocked_fields (io_ended_fields Bad (fields e.word));
  since = since;
  remembered = tagged;
  unsound = λ is. subst (λ (x : ℕ). NotesUnsound x u) same (unsound is);
  ends = record { had = here; ends = e; notes = ap (λ (x : ViewMarks). x.last_ended) e.marks };
  tagged = e.shows.remembered (λ none. none-some (packed_tag tag) (sym none ∙ tagged));
  invalid = e.shows.input here;
  failed = refl;
}

-- with steps before it
pub unread_since : (why : FetchError) (tag : Tag) (f g : ℕ) (v u w : View) → g ≡ f → OnlyRises v u → EndsUnread why tag g u w → EndsUnread why tag f v w
unread_since why tag f g v u w same before e = subst (λ (x : ℕ). EndsUnread why tag x v w) same record {
  begun = e.begun;
  stored = e.stored;
  since = rises_on v u e.begun before e.since;
  remembered = e.remembered;
  unsound = e.unsound;
  ends = e.ends;
  tagged = e.tagged;
  invalid = e.invalid;
  failed = e.failed;
}

pub unread_after : (tag : Tag) (f g : ℕ) (v u w : View) (r : Result FetchedPage FetchError) → g ≡ f → OnlyRises v u → IfErr r (λ why. EndsUnread why tag g u w) → IfErr r (λ why. EndsUnread why tag f v w)
unread_after tag f g v u w (Ok fetched) same before e = tt
unread_after tag f g v u w (Err why) same before e = unread_since why tag f g v u w same before e

-- and with the pin given up after it
pub fails_read : (why : FetchError) (tag : Tag) (f g : ℕ) (v u x w : View) → g ≡ f → OnlyRises v u → EndsUnread why tag g u x → Woken f x w → outside_of w ≡ outside_of x → FailsRead why tag f v w
fails_read why tag f g v u x w same before e wakes kept = let unread = unread_since why tag f g v u x same before e in record {
  ended = x;
  unread = unread;
  gives_up = wakes;
  last = ap (λ (y : View). y.last_ended) kept ∙ unread.ends.notes;
}
