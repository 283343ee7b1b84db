-- What a frame is while its header is held, and its state word and tag word are loaded.
use Rattle.std.proofs.Common.{◌≡◌, ◌≢◌, ℕ, cond, Bool, true, false, Option, Some, None, eq-eqb, refl, sym, ap, ◌∙◌, subst}
use Rattle.std.specs.Prelude.{IfSome}
use Rattle.state_word.specs.declared.word.StateWord.{StateWord}
use Rattle.state_word.specs.Fields.{fields}
use Rattle.block_tag.specs.declared.tag.Tag.{Tag}
use Rattle.block_tag.specs.Names.{packed_tag}
use Rattle.pin_core.specs.declared.view.Link.{Link}
use Rattle.pin_core.specs.declared.view.Role.{Role}
use Rattle.pin_core.specs.declared.view.Role.TheVariants.{Absent, HandedOut, Victim}
use Rattle.pin_core.specs.Kinds.{CanLoadTag, tag_after}
use Rattle.pin_core.specs.State.{no_tag}
use Rattle.frame_table.specs.Seats.{HoldsHeader, Looked, locked_link, read_link, tag_word, unlocked_link}
use Rattle.buffer_frames.specs.Rests.{LinkRests}
use Rattle.buffer_frames.specs.Tokens.{HeldFrame}
use Rattle.buffer_frames.proofs.Passing.{rests_read}

-- the header is held after a load, too
pub still_held : (was : ℕ) (l m n : Link) → Looked (locked_link was l) m → Looked m n → n.header ≢ None
still_held was l m n a b none = let no : Some (fields was) ≡ None = sym (b.header ∙ a.header) ∙ none in absurd (cc)

pub still_settled : (was : ℕ) (l m n : Link) → Looked (locked_link was l) m → Looked m n → l.pending ≡ false → n.pending ≡ false
still_settled was l m n a b settled = b.pending ∙ a.pending ∙ settled

-- so the tag word may be loaded
pub may_load_under : (r : Role) (header : Option StateWord) → header ≢ None → CanLoadTag r header
may_load_under Absent header held = held
may_load_under HandedOut header held = tt
may_load_under Victim header held = tt

-- and after that the header is held still
pub may_unlock : (tag : Option Tag) (l m : Link) → m ≡ read_link tag l → l.header ≢ None → l.pending ≡ false → HoldsHeader m
may_unlock tag l m e held settled = record { held = λ none. held (sym (ap (λ (x : Link). x.header) e) ∙ none); settled = ap (λ (x : Link). x.pending) e ∙ settled }

-- a tag is answered exactly if the word that is held has BM_TAG_VALID
pub flagged_as : (header : Option StateWord) (w : StateWord) (b : Bool) → header ≡ Some w → IfSome header (λ (x : StateWord). b ≡ x.tag_valid) → b ≡ w.tag_valid
flagged_as header w b e flagged = subst (λ (o : Option StateWord). IfSome o (λ (x : StateWord). b ≡ x.tag_valid)) e flagged

-- a pin remembers nothing new of a frame without a tag
unread : (pending : Bool) (r : Role) (known : Option ℕ) → tag_after pending r no_tag known ≡ known
unread true r known = refl
unread false Absent known = refl
unread false HandedOut known = ap (λ (b : Bool). cond b known (Some no_tag)) (eq-eqb no_tag no_tag refl)
unread false Victim known = ap (λ (b : Bool). cond b known (Some no_tag)) (eq-eqb no_tag no_tag refl)

-- the frame rests after the load, but for its header
pub rests_loaded : (o : Option HeldFrame) (tag : Option Tag) (l m : Link) → m ≡ read_link tag l → l.pending ≡ false → ((known : ℕ) → l.tag ≡ Some known → known ≡ tag_word tag) → IfSome tag (λ (t : Tag). l.role ≢ Absent → l.pending ≡ false → m.tag ≡ Some (packed_tag t)) → LinkRests o (unlocked_link l) → LinkRests o (unlocked_link m)
rests_loaded o (Some tag) l m e settled same remembered r = rests_read o tag l m e same (λ pinned. remembered pinned settled) r
rests_loaded o None l m e settled same remembered r = let c = r.calm in record {
  calm = record { no_header = refl; assigned = ap (λ (x : Link). x.pending) e ∙ c.assigned; no_copy = ap (λ (x : Link). x.copying) e ∙ c.no_copy; applied = ap (λ (x : Link). x.unapplied) e ∙ c.applied; no_io = ap (λ (x : Link). x.io) e ∙ c.no_io; page_home = ap (λ (x : Link). x.out) e ∙ c.page_home; no_wait = ap (λ (x : Link). x.waits) e ∙ c.no_wait };
  role = ap (λ (x : Link). x.role) e ∙ r.role;
  tag = ap (λ (x : Link). x.tag) e ∙ unread l.pending l.role l.tag ∙ r.tag;
  seen = λ some. ap (λ (x : Link). x.seen_valid) e ∙ r.seen some;
  unlocked = λ none. ap (λ (x : Link). x.content) e ∙ r.unlocked none;
}
