-- Frames at which nothing is done, over steps elsewhere and over loads.
use Rattle.std.proofs.Common.{◌≡◌, ◌≢◌, ℕ, Option, Some, None, sym, refl, ap, ◌∙◌, subst}
use Rattle.std.specs.Prelude.{IfNone, IfSome, MatchOption}
use Rattle.pin_core.specs.declared.view.Link.{Link}
use Rattle.pin_core.specs.declared.view.View.{View}
use Rattle.pin_core.specs.declared.view.Role.{Role}
use Rattle.pin_core.specs.declared.view.Role.TheVariants.{Absent, HandedOut, Victim}
use Rattle.pin_core.specs.declared.view.Content.TheVariants.{Unlocked}
use Rattle.pin_core.specs.State.{link}
use Rattle.pin_core.proofs.Views.{link_same}
use Rattle.frame_table.specs.Seats.{Looked, unpinned_link}
use Rattle.buffer_frames.specs.Rests.{HasAtMostLock, LinkRests, LinksRest, LinksRestBeside, role_of}
use Rattle.buffer_frames.specs.Tokens.{HeldFrame, Tokens, held_at}
use Rattle.buffer_frames.proofs.Keeping.{beside_kept, calm_looked, rests_with}
use Rattle.buffer_frames.specs.Stages.{HasVictim, Pins}

-- a latch is left, or taken
pub pins_worked : (t : Tokens) (tag f : ℕ) (v w : View) → w.links ≡ v.links → Pins tag f t v → Pins tag f t w
pins_worked t tag f v w e p = let same = link_same v w e in record {
  others = beside_kept f t v w (λ g n. same g) p.others;
  new = p.new;
  calm = subst HasAtMostLock (sym (same f)) p.calm;
  unlocked = ap (λ (l : Link). l.content) (same f) ∙ p.unlocked;
  role = ap (λ (l : Link). l.role) (same f) ∙ p.role;
  remembered = ap (λ (l : Link). l.tag) (same f) ∙ p.remembered;
}

pub victim_worked : (t : Tokens) (f : ℕ) (v w : View) → w.links ≡ v.links → HasVictim f t v → HasVictim f t w
victim_worked t f v w e p = let same = link_same v w e in record {
  others = beside_kept f t v w (λ g n. same g) p.others;
  new = p.new;
  calm = subst HasAtMostLock (sym (same f)) p.calm;
  unlocked = ap (λ (l : Link). l.content) (same f) ∙ p.unlocked;
  role = ap (λ (l : Link). l.role) (same f) ∙ p.role;
}

-- A frame of which callers have no tokens is given up
pub rests_unpinned : (l m : Link) → Looked (unpinned_link l) m → HasAtMostLock l → l.content ≡ Unlocked → LinkRests None m
rests_unpinned l m a c unlocked = record {
  calm = calm_looked (unpinned_link l) m a record { no_header = c.no_header; assigned = c.assigned; no_copy = c.no_copy; applied = c.applied; no_io = c.no_io; page_home = c.page_home; no_wait = c.no_wait };
  role = a.role;
  tag = a.tag;
  seen = λ some. absurd (some refl);
  unlocked = λ none. a.content ∙ unlocked;
}

frame_unpinned : (t : Tokens) (f : ℕ) (v w : View) → LinksRestBeside f t v → held_at t f ≡ None → HasAtMostLock (link v f) → (link v f).content ≡ Unlocked → ((g : ℕ) → g ≢ f → link w g ≡ link v g) → Looked (unpinned_link (link v f)) (link w f) → LinksRest t w
frame_unpinned t f v w others new calm unlocked same looked = rests_with f t w (beside_kept f t v w same others) (subst (λ (o : Option HeldFrame). LinkRests o (link w f)) (sym new) (rests_unpinned (link v f) (link w f) looked calm unlocked))

pub victim_unpinned : (t : Tokens) (f : ℕ) (v w : View) → HasVictim f t v → ((g : ℕ) → g ≢ f → link w g ≡ link v g) → Looked (unpinned_link (link v f)) (link w f) → LinksRest t w
victim_unpinned t f v w p same looked = frame_unpinned t f v w p.others p.new p.calm p.unlocked same looked

pub pins_unpinned : (t : Tokens) (tag f : ℕ) (v w : View) → Pins tag f t v → ((g : ℕ) → g ≢ f → link w g ≡ link v g) → Looked (unpinned_link (link v f)) (link w f) → LinksRest t w
pins_unpinned t tag f v w p same looked = frame_unpinned t f v w p.others p.new p.calm p.unlocked same looked

-- the role of a pin that callers have, or haven't
pub not_victim : (o : Option HeldFrame) (r : Role) → r ≡ role_of o → r ≢ Victim
not_victim None r e victim = let no : Absent ≡ Victim = sym e ∙ victim in absurd (cc)
not_victim (Some h) r e victim = let no : HandedOut ≡ Victim = sym e ∙ victim in absurd (cc)

pub none_absent : (o : Option HeldFrame) → role_of o ≡ Absent → o ≡ None
none_absent None e = refl
none_absent (Some h) e = let no : HandedOut ≡ Absent = e in absurd (cc)

-- what follows of an option
pub some_to : {A : Type 0} {P Q : A → Type 0} (o : Option A) → ((x : A) → P x → Q x) → IfSome o P → IfSome o Q
some_to (Some x) to p = to x p
some_to None to p = p

pub none_if : {A : Type 0} {P : Type 0} (o : Option A) → P → IfNone o P
none_if (Some x) p = tt
none_if None p = p

pub match_to : {A : Type 0} {P P' : Type 0} {Q Q' : A → Type 0} (o : Option A) → (P → P') → ((x : A) → Q x → Q' x) → MatchOption o P Q → MatchOption o P' Q'
match_to (Some x) none some m = some x m
match_to None none some m = none m
