-- Frames that a map gives, and pins.
use Rattle.std.proofs.Common.{◌≡◌, ◌≢◌, ℕ, Option, Some, None, Bool, true, refl, sym, ap, ◌∙◌, subst, arith}
use Rattle.std.specs.Prelude.{nat_eq, option_map, ◌&&◌}
use denote.Enum.Bare.{sameb}
use Rattle.block_tag.specs.contracts.tag.Fork.{the_type}
use Rattle.block_tag.specs.declared.tag.Tag.{Tag}
use Rattle.block_tag.specs.Names.{packed_tag}
use Rattle.pin_core.specs.declared.view.Link.{Link}
use Rattle.pin_core.specs.declared.view.View.{View}
use Rattle.pin_core.specs.State.{link}
use Rattle.frame_table.specs.Seats.{Looked, RemembersNoOther, mapped_link, pinned_link, read_link}
use Rattle.buffer_frames.specs.Rests.{HasAtMostLock, LinksRest}
use Rattle.buffer_frames.specs.Tokens.{HeldFrame, IsNew, Tokens, held_at}
use Rattle.buffer_frames.proofs.Keeping.{beside, beside_kept, calm_looked}
use Rattle.buffer_frames.specs.Stages.{Pins}

-- a frame that the map gives for a block that callers have no pin of isn't pinned
pub none_given : (t : Tokens) (tag : Tag) (f : ℕ) (v : View) → RemembersNoOther (packed_tag tag) (link v f) → IsNew tag t → LinksRest t v → held_at t f ≡ None
none_given t tag f v remembers new r = of_held (held_at t f) refl
  where
    of_held : (o : Option HeldFrame) → held_at t f ≡ o → o ≡ None
    of_held None e = refl
    of_held (Some h) e = absurd (new f h e (remembers h.tag ((r f).tag ∙ ap (λ (o : Option HeldFrame). option_map HeldFrame.tag o) e)))

pub calm_mapped : (tag : ℕ) (ring : Bool) (l m : Link) → Looked (mapped_link tag ring l) m → HasAtMostLock l → HasAtMostLock m
calm_mapped tag ring l m a c = calm_looked (mapped_link tag ring l) m a record { no_header = c.no_header; assigned = c.assigned; no_copy = c.no_copy; applied = c.applied; no_io = c.no_io; page_home = c.page_home; no_wait = c.no_wait }

-- after the pin of the frame that the map gives
pub pins_mapped : (t : Tokens) (tag f : ℕ) (ring : Bool) (v w : View) → LinksRest t v → held_at t f ≡ None → ((g : ℕ) → g ≢ f → link w g ≡ link v g) → Looked (mapped_link tag ring (link v f)) (link w f) → Pins tag f t w
pins_mapped t tag f ring v w r new others looked = record {
  others = beside_kept f t v w others (beside f t v r);
  new = new;
  calm = calm_mapped tag ring (link v f) (link w f) looked (r f).calm;
  unlocked = looked.content ∙ (r f).unlocked new;
  role = looked.role;
  remembered = looked.tag;
}

-- after a pin of a frame that has a tag, and a load of the tag
module _ (t : Tokens) (tag f : ℕ) (ring : Bool) (r : Option Tag) (v u w : View) where
  pub pins_read : LinksRest t v → held_at t f ≡ None → ((g : ℕ) → g ≢ f → link u g ≡ link v g) → Looked (pinned_link ring (link v f)) (link u f) → ((g : ℕ) → g ≢ f → link w g ≡ link u g) → link w f ≡ read_link r (link u f) → (link w f).tag ≡ Some tag → Pins tag f t w
  pins_read rests new one looked two read remembered = record {
    others = beside_kept f t u w two (beside_kept f t v u one (beside f t v rests));
    new = new;
    calm = subst HasAtMostLock (sym read) record { no_header = calm.no_header; assigned = calm.assigned; no_copy = calm.no_copy; applied = calm.applied; no_io = calm.no_io; page_home = calm.page_home; no_wait = calm.no_wait };
    unlocked = ap (λ (l : Link). l.content) read ∙ looked.content ∙ (rests f).unlocked new;
    role = ap (λ (l : Link). l.role) read ∙ looked.role;
    remembered = remembered;
  }
    where
      calm : HasAtMostLock (link u f)
      calm = let c = (rests f).calm in calm_looked (pinned_link ring (link v f)) (link u f) looked record { no_header = c.no_header; assigned = c.assigned; no_copy = c.no_copy; applied = c.applied; no_io = c.no_io; page_home = c.page_home; no_wait = c.no_wait }

-- tags that are compared as the same
pub tags_same : (a b : Tag) → (nat_eq a.rel.0 b.rel.0 && (sameb the_type a.fork b.fork && nat_eq a.block b.block)) ≡ true → a ≡ b
tags_same a b e = grind arith
