-- What a backend has at a frame over the steps of a read and of a write.
use Rattle.std.proofs.Common.{◌≡◌, ℕ, Bool, true, false, Option, Some, None, sym, refl, ap, ◌∙◌, subst}
use Rattle.std.specs.Prelude.{if◌then◌else◌}
use Rattle.state_word.specs.declared.word.IoEnd.{IoEnd}
use Rattle.state_word.specs.declared.word.IoEnd.TheVariants.{ReadOk, WriteOk, Bad}
use Rattle.pin_core.specs.declared.view.Content.TheVariants.{Shared, Unlocked}
use Rattle.pin_core.specs.declared.view.Io.{Io}
use Rattle.pin_core.specs.declared.view.Io.TheVariants.{Quiet, Input, Output}
use Rattle.pin_core.specs.declared.view.LastWrite.TheVariants.{Done}
use Rattle.pin_core.specs.declared.view.Link.{Link}
use Rattle.pin_core.specs.declared.view.View.{View}
use Rattle.pin_core.specs.State.{Page, link}
use Rattle.page_core.specs.Kinds as paged
use Rattle.page_core.specs.Kinds.{copied_after, saw_valid}
use Rattle.frame_table.specs.Kinds.{pages}
use Rattle.frame_table.specs.Content.{CanDropShare, begun_link, finished_link, shared_link, unshared_link}
use Rattle.frame_table.specs.FrameSteps.{Did}
use Rattle.frame_table.specs.PageWork.{applied_link, page_out_link, read_home, returned_link}
use Rattle.frame_table.specs.Seats.{Looked, locked_link, unlocked_link}
use Rattle.content_locks.specs.Locks.{CanCopy, copied_link}
use Rattle.frame_table.proofs.Told.{link_is}
use Rattle.buffer_frames.specs.Tokens.{Tokens}
use Rattle.buffer_frames.proofs.Keeping.{beside_kept, calm_looked}
use Rattle.buffer_frames.proofs.LaneTrips.{read_noted_link, write_noted_link}
use Rattle.buffer_frames.specs.Stages.{IsPinned, IsPinnedValid, IsRead, IsReading, IsSharing, Pins}
use Rattle.buffer_frames.specs.Working.{WorksAt}

pub read_looked : (tag : ℕ) (l m : Link) → Looked l m → IsRead tag l → IsRead tag m
read_looked tag l m a r = record { calm = calm_looked l m a r.calm; unlocked = a.content ∙ r.unlocked; role = a.role ∙ r.role; remembered = a.tag ∙ r.remembered }

pub pinned_looked : (tag : ℕ) (l m : Link) → Looked l m → IsPinned tag l → IsPinned tag m
pinned_looked tag l m a r = record { calm = calm_looked l m a r.calm; unlocked = a.content ∙ r.unlocked; pinned = λ none. r.pinned (sym a.role ∙ none); remembered = a.tag ∙ r.remembered }

pub sharing_looked : (io : Io) (tag : ℕ) (l m : Link) → Looked l m → IsSharing io tag l → IsSharing io tag m
sharing_looked io tag l m a s = record { pinned = λ none. s.pinned (sym a.role ∙ none); remembered = a.tag ∙ s.remembered; shared = a.content ∙ s.shared; seen = a.seen_valid s.seen; right = a.io ∙ s.right; home = a.out ∙ s.home; no_header = a.header ∙ s.no_header; no_copy = a.copying ∙ s.no_copy; applied = a.unapplied ∙ s.applied; assigned = a.pending ∙ s.assigned; no_wait = a.waits s.no_wait }

-- a frame that is pinned for a block, and no more
pub read_of_pins : (tag f : ℕ) (t : Tokens) (v : View) → Pins tag f t v → IsRead tag (link v f)
read_of_pins tag f t v p = record { calm = p.calm; unlocked = p.unlocked; role = p.role; remembered = p.remembered }

pub pins_worked : (tag f : ℕ) (t : Tokens) (v w : View) → Pins tag f t v → WorksAt f v w → IsRead tag (link w f) → Pins tag f t w
pins_worked tag f t v w p k r = record { others = beside_kept f t v w k.others p.others; new = p.new; calm = r.calm; unlocked = r.unlocked; role = r.role; remembered = r.remembered }

-- A read begins: nothing was overwritten while the page is home
pub begun_fresh : (f word : ℕ) (v w : View) → Did (pages paged.start_input) f v w word → (link w f).out ≡ None → (link w f).overwritten ≡ None
begun_fresh f word v w d home = let is = link_is (pages paged.start_input) f word v w d in ap (λ (l : Link). l.overwritten) is ∙ of_page (link v f).overwritten refl (sym (ap (λ (l : Link). l.out) is) ∙ home)
  where
    of_page : (o : Option Page) → (link v f).overwritten ≡ o → (link v f).out ≡ None → o ≡ None
    of_page None e out = refl
    of_page (Some q) e out = absurd (((d.laws.invariant.pool.pages.cells d.seat v f d.there d.inside).overwritten q e).out out)

pub reading_begun : (tag : ℕ) (l m : Link) → IsRead tag l → Looked (begun_link true l) m → (m.out ≡ None → m.overwritten ≡ None) → IsReading tag m
reading_begun tag l m r b fresh = let c = r.calm in record { pinned = b.role ∙ r.role; remembered = b.tag ∙ r.remembered; unlocked = b.content ∙ r.unlocked; right = b.io; fresh = fresh (b.out ∙ c.page_home); home = b.out ∙ c.page_home; no_header = b.header; no_copy = b.copying ∙ c.no_copy; applied = b.unapplied ∙ c.applied; assigned = b.pending ∙ c.assigned; no_wait = b.waits c.no_wait }

-- it is noted
pub reading_noted : (tag : ℕ) (done : Bool) (page : Page) (l m : Link) → IsReading tag l → m ≡ read_noted_link done page l → IsReading tag m
reading_noted tag true page l m r e = subst (IsReading tag) (sym e) record { pinned = r.pinned; remembered = r.remembered; unlocked = r.unlocked; right = r.right; fresh = r.fresh; home = r.home; no_header = r.no_header; no_copy = r.no_copy; applied = r.applied; assigned = r.assigned; no_wait = r.no_wait }
reading_noted tag false page l m r e = subst (IsReading tag) (sym e) r

pub given_noted : (done : Bool) (page : Page) (l m : Link) → m ≡ read_noted_link done page l → done ≡ true → m.read ≡ Some page
given_noted true page l m e d = ap (λ (x : Link). x.read) e
given_noted false page l m e d = let no : false ≡ true = d in absurd (cc)

-- and its page comes back in place of the one that was taken out
pub returned_read : (page read taken : Page) (l m n : Link) → m ≡ page_out_link taken l → n ≡ returned_link page m → l.unapplied ≡ false → l.io ≡ Input → l.read ≡ Some read → n ≡ record l { out = None; copied = copied_after l.content false page l.copied; read_is_home = true }
returned_read page read taken l m n out back applied right given = let home : Link = record l { out = None; copied = copied_after l.content false page l.copied } in
    back ∙ ap (returned_link page) out ∙ ap (λ (b : Bool). if b then applied_link page (record l { out = None }) else read_home l.io l.read home) applied
    ∙ ap (λ (io : Io). read_home io l.read home) right ∙ ap (λ (o : Option Page). read_home Input o home) given

-- The content lock is shared, a write begins and ends, and the lock is given up
pub sharing_taken : (tag : ℕ) (l m : Link) → IsPinned tag l → l.seen_valid ≡ true → m ≡ shared_link l → IsSharing Quiet tag m
sharing_taken tag l m p seen e = let c = p.calm in subst (IsSharing Quiet tag) (sym e) record { pinned = p.pinned; remembered = p.remembered; shared = refl; seen = seen; right = c.no_io; home = c.page_home; no_header = c.no_header; no_copy = c.no_copy; applied = c.applied; assigned = c.assigned; no_wait = c.no_wait }

-- BM_JUST_DIRTIED is cleared under the header
pub sharing_unlocked : (tag word : ℕ) (l m n : Link) → IsSharing Output tag l → Looked (locked_link word l) m → n ≡ unlocked_link m → IsSharing Output tag n
sharing_unlocked tag word l m n s a e = subst (IsSharing Output tag) (sym e) record { pinned = λ none. s.pinned (sym a.role ∙ none); remembered = a.tag ∙ s.remembered; shared = a.content ∙ s.shared; seen = a.seen_valid s.seen; right = a.io ∙ s.right; home = a.out ∙ s.home; no_header = refl; no_copy = a.copying ∙ s.no_copy; applied = a.unapplied ∙ s.applied; assigned = a.pending ∙ s.assigned; no_wait = a.waits s.no_wait }

-- the page is copied
pub sharing_copied : (io : Io) (tag : ℕ) (page : Page) (l m : Link) → IsSharing io tag l → m ≡ copied_link page l → IsSharing io tag m
sharing_copied io tag page l m s e = subst (IsSharing io tag) (sym e) record { pinned = s.pinned; remembered = s.remembered; shared = s.shared; seen = s.seen; right = s.right; home = s.home; no_header = s.no_header; no_copy = s.no_copy; applied = s.applied; assigned = s.assigned; no_wait = s.no_wait }

pub may_copy : (io : Io) (tag : ℕ) (l : Link) → IsSharing io tag l → CanCopy l
may_copy io tag l s = record { right = λ none. (let no : Shared ≡ Unlocked = sym s.shared ∙ none in absurd (cc)); applied = s.applied; home = s.home; no_copy = s.no_copy }

-- a write is noted
pub sharing_noted : (tag : ℕ) (done : Bool) (l m : Link) → IsSharing Output tag l → m ≡ write_noted_link done l → IsSharing Output tag m
sharing_noted tag true l m s e = subst (IsSharing Output tag) (sym e) record { pinned = s.pinned; remembered = s.remembered; shared = s.shared; seen = s.seen; right = s.right; home = s.home; no_header = s.no_header; no_copy = s.no_copy; applied = s.applied; assigned = s.assigned; no_wait = s.no_wait }
sharing_noted tag false l m s e = subst (IsSharing Output tag) (sym e) record { pinned = s.pinned; remembered = s.remembered; shared = s.shared; seen = s.seen; right = s.right; home = s.home; no_header = s.no_header; no_copy = s.no_copy; applied = s.applied; assigned = s.assigned; no_wait = s.no_wait }

pub role_noted : (done : Bool) (l m : Link) → m ≡ write_noted_link done l → m.role ≡ l.role
role_noted true l m e = ap (λ (x : Link). x.role) e
role_noted false l m e = ap (λ (x : Link). x.role) e

pub done_noted : (done : Bool) (l m : Link) → m ≡ write_noted_link done l → done ≡ true → m.last_write ≡ Done
done_noted true l m e d = ap (λ (x : Link). x.last_write) e
done_noted false l m e d = let no : false ≡ true = d in absurd (cc)

pub sharing_begun : (tag : ℕ) (l m : Link) → IsSharing Quiet tag l → Looked (begun_link false l) m → IsSharing Output tag m
sharing_begun tag l m s a = sharing_looked Output tag (begun_link false l) m a record { pinned = s.pinned; remembered = s.remembered; shared = s.shared; seen = s.seen; right = refl; home = s.home; no_header = refl; no_copy = s.no_copy; applied = s.applied; assigned = s.assigned; no_wait = s.no_wait }

saw_more : (end : IoEnd) (saw : Bool) → saw ≡ true → saw_valid end saw ≡ true
saw_more ReadOk saw e = refl
saw_more WriteOk saw e = e
saw_more Bad saw e = e

pub sharing_ended : (end : IoEnd) (tag : ℕ) (l m : Link) → IsSharing Output tag l → Looked (finished_link end l) m → IsSharing Quiet tag m
sharing_ended end tag l m s a = sharing_looked Quiet tag (finished_link end l) m a record { pinned = s.pinned; remembered = s.remembered; shared = s.shared; seen = saw_more end l.seen_valid s.seen; right = refl; home = s.home; no_header = refl; no_copy = s.no_copy; applied = s.applied; assigned = s.assigned; no_wait = s.no_wait }

pub may_drop : (tag : ℕ) (l : Link) → IsSharing Quiet tag l → CanDropShare l
may_drop tag l s = record { right = s.shared; no_copy = s.no_copy; no_output = λ out. (let no : Quiet ≡ Output = sym s.right ∙ out in absurd (cc)); page_home = s.home }

pub pinned_unshared : (tag : ℕ) (l m : Link) → IsSharing Quiet tag l → m ≡ unshared_link l → IsPinnedValid tag m
pinned_unshared tag l m s e = subst (IsPinnedValid tag) (sym e) record {
  pinned = record {
    calm = record { no_header = s.no_header; assigned = s.assigned; no_copy = s.no_copy; applied = s.applied; no_io = s.right; page_home = s.home; no_wait = s.no_wait };
    unlocked = refl;
    pinned = s.pinned;
    remembered = s.remembered;
  };
  seen = s.seen;
}
