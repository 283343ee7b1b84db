-- Steps under the header of a frame that callers have no tokens of.
use Rattle.std.proofs.Common.{◌≡◌, ◌≢◌, ℕ, Option, Some, None, true, sym, refl, ap, ◌∙◌, subst}
use mathlib.Core.Logic.{dite}
use native.Mathlib.Decide.{ℕ_discrete}
use Rattle.state_word.specs.declared.word.StateWord.{StateWord}
use Rattle.state_word.specs.Fields.{fields}
use Rattle.pin_core.specs.declared.view.Link.{Link}
use Rattle.pin_core.specs.declared.view.View.{View}
use Rattle.pin_core.specs.declared.view.Role.TheVariants.{Absent, Victim}
use Rattle.pin_core.specs.State.{link}
use Rattle.pin_core.specs.Steps.{HasNoVictim, HoldsNoHeader}
use Rattle.pin_core.proofs.Views.{link_same}
use Rattle.frame_table.specs.Seats.{HoldsNumber, HoldsWord, IsWordOf, Looked, assigned_link, cleared_link, locked_link, stored_link, unlocked_link, victim_link}
use Rattle.clock_sweep.specs.Keeping.{GetsHeader}
use Rattle.buffer_frames.specs.Rests.{HasAtMostLock, LinksRest, LinksRestBeside}
use Rattle.buffer_frames.specs.Tokens.{Tokens, held_at}
use Rattle.buffer_frames.proofs.Keeping.{beside, beside_kept, beside_looked}
use Rattle.buffer_frames.specs.Stages.{HasVictim, Pins}
use Rattle.buffer_frames.proofs.Calm.{none_absent, not_victim}

-- no header is held
pub headless_rest : (t : Tokens) (v : View) → LinksRest t v → HoldsNoHeader v
headless_rest t v r f = (r f).calm.no_header

pub headless_victim : (t : Tokens) (f : ℕ) (v : View) → HasVictim f t v → HoldsNoHeader v
headless_victim t f v p g = dite (ℕ_discrete g f) (λ e. subst (λ (x : ℕ). (link v x).header ≡ None) (sym e) p.calm.no_header) (λ n. (p.others g n).calm.no_header)

-- The header of a frame with nothing but a pin is locked
module _ (l m : Link) (word : ℕ) (locked : Looked (locked_link word l) m) (c : HasAtMostLock l) where
  pub knows_word : (P : StateWord → Type 0) → P (fields word) → HoldsWord P m
  knows_word P holds = record {
    held = λ none. let no : Some (fields word) ≡ None = sym locked.header ∙ none in absurd (cc);
    knows = λ w e. let same : Some (fields word) ≡ Some w = sym locked.header ∙ e in subst P (cc) holds;
  }

  pub calm_pinned : (n : Link) → n ≡ victim_link m → HasAtMostLock n
  calm_pinned n e = subst HasAtMostLock (sym e) record { no_header = refl; assigned = locked.pending ∙ c.assigned; no_copy = locked.copying ∙ c.no_copy; applied = locked.unapplied ∙ c.applied; no_io = locked.io ∙ c.no_io; page_home = locked.out ∙ c.page_home; no_wait = locked.waits c.no_wait }

  pub calm_unlocked : (n : Link) → n ≡ unlocked_link m → HasAtMostLock n
  calm_unlocked n e = subst HasAtMostLock (sym e) record { no_header = refl; assigned = locked.pending ∙ c.assigned; no_copy = locked.copying ∙ c.no_copy; applied = locked.unapplied ∙ c.applied; no_io = locked.io ∙ c.no_io; page_home = locked.out ∙ c.page_home; no_wait = locked.waits c.no_wait }

  pub calm_cleared : (n o : Link) → n ≡ stored_link m → o ≡ cleared_link n → HasAtMostLock o
  calm_cleared n o e a = subst HasAtMostLock (sym (a ∙ ap cleared_link e)) record { no_header = refl; assigned = refl; no_copy = locked.copying ∙ c.no_copy; applied = locked.unapplied ∙ c.applied; no_io = locked.io ∙ c.no_io; page_home = locked.out ∙ c.page_home; no_wait = locked.waits c.no_wait }

  pub calm_assigned : (n o : Link) (tag : Option ℕ) → n ≡ stored_link m → o ≡ assigned_link tag n → HasAtMostLock o
  calm_assigned n o tag e a = subst HasAtMostLock (sym (a ∙ ap (assigned_link tag) e)) record { no_header = refl; assigned = refl; no_copy = locked.copying ∙ c.no_copy; applied = locked.unapplied ∙ c.applied; no_io = locked.io ∙ c.no_io; page_home = locked.out ∙ c.page_home; no_wait = locked.waits c.no_wait }

-- it is unlocked again, as it was
pub victim_unlocked : (t : Tokens) (f word : ℕ) (v u w : View) → HasVictim f t v → ((g : ℕ) → g ≢ f → link u g ≡ link v g) → Looked (locked_link word (link v f)) (link u f) → ((g : ℕ) → g ≢ f → link w g ≡ link u g) → link w f ≡ unlocked_link (link u f) → HasVictim f t w
victim_unlocked t f word v u w p one locked two unlocked = record {
  others = beside_kept f t v w (λ g n. two g n ∙ one g n) p.others;
  new = p.new;
  calm = calm_unlocked (link v f) (link u f) word locked p.calm (link w f) unlocked;
  unlocked = ap (λ (l : Link). l.content) unlocked ∙ locked.content ∙ p.unlocked;
  role = ap (λ (l : Link). l.role) unlocked ∙ locked.role ∙ p.role;
}

-- The header of a victim is locked, its tag word is stored, and then the frame is assigned or cleared
module _ (t : Tokens) (f word : ℕ) (v u x y w : View) (victim : HasVictim f t v) (one : (g : ℕ) → g ≢ f → link u g ≡ link v g) (locked : Looked (locked_link word (link v f)) (link u f)) (two : (g : ℕ) → g ≢ f → link x g ≡ link u g) (stored : link x f ≡ stored_link (link u f)) (three : (g : ℕ) → g ≢ f → link y g ≡ link x g) (four : w.links ≡ y.links) where
  others : LinksRestBeside f t w
  others = beside_kept f t v w (λ g n. link_same y w four g ∙ three g n ∙ two g n ∙ one g n) victim.others

  -- the frame loses its flags
  pub victim_cleared : link y f ≡ cleared_link (link x f) → HasVictim f t w
  victim_cleared cleared = let same = link_same y w four f in record {
    others = others;
    new = victim.new;
    calm = subst HasAtMostLock (sym same) (calm_cleared (link v f) (link u f) word locked victim.calm (link x f) (link y f) stored cleared);
    unlocked = ap (λ (l : Link). l.content) (same ∙ cleared ∙ ap cleared_link stored) ∙ locked.content ∙ victim.unlocked;
    role = ap (λ (l : Link). l.role) (same ∙ cleared ∙ ap cleared_link stored) ∙ locked.role ∙ victim.role;
  }

  -- it gets the tag
  pub pins_assigned : (tag : ℕ) → link y f ≡ assigned_link (link y f).tag (link x f) → (link y f).tag ≡ Some tag → Pins tag f t w
  pins_assigned tag assigned is = let same = link_same y w four f in record {
    others = others;
    new = victim.new;
    calm = subst HasAtMostLock (sym same) (calm_assigned (link v f) (link u f) word locked victim.calm (link x f) (link y f) (link y f).tag stored assigned);
    unlocked = ap (λ (l : Link). l.content) (same ∙ assigned) ∙ ap (λ (l : Link). l.content) stored ∙ locked.content ∙ victim.unlocked;
    role = ap (λ (l : Link). l.role) same ∙ ap (λ (l : Link). l.role) assigned;
    remembered = ap (λ (l : Link). l.tag) same ∙ is;
  }

-- The header of a frame was got by a search for a victim, and the frame is pinned
module _ (t : Tokens) (f h word : ℕ) (v w : View) (e : h ≡ f) (rests : LinksRest t v) (gets : GetsHeader f word v w) (absent : (link v f).role ≡ Absent) where
  got : GetsHeader h word v w
  got = subst (λ (x : ℕ). GetsHeader x word v w) (sym e) gets

  here_absent : (link v h).role ≡ Absent
  here_absent = subst (λ (x : ℕ). (link v x).role ≡ Absent) (sym e) absent

  here_new : held_at t h ≡ None
  here_new = none_absent (held_at t h) (sym (rests h).role ∙ here_absent)

  pub has_no_victim : HasNoVictim w
  has_no_victim g = dite (ℕ_discrete g h)
      (λ same. subst (λ (x : ℕ). (link w x).role ≢ Victim) (sym same) (not_victim (held_at t h) (link w h).role (got.here.role ∙ (rests h).role)))
      (λ n. not_victim (held_at t g) (link w g).role ((got.others g n).role ∙ (rests g).role))

  pub victim_pinned : (p : ℕ) (x : View) → p ≡ h → ((g : ℕ) → g ≢ h → link x g ≡ link w g) → link x h ≡ victim_link (link w h) → HasVictim p t x
  victim_pinned p x same others pinned = subst (λ (z : ℕ). HasVictim z t x) (sym same) record {
    others = beside_kept h t w x others (beside_looked h t v w got.others (beside h t v rests));
    new = here_new;
    calm = calm_pinned (link v h) (link w h) word got.here (rests h).calm (link x h) pinned;
    unlocked = ap (λ (l : Link). l.content) pinned ∙ got.here.content ∙ (rests h).unlocked here_new;
    role = ap (λ (l : Link). l.role) pinned;
  }

-- what is known of the word that is held stands while the tag word is stored
pub number_stored : (P : StateWord → Type 0) (l m n : Link) (word : ℕ) → Looked (locked_link word l) m → n ≡ stored_link m → P (fields word) → HoldsNumber P word n
number_stored P l m n word locked stored holds = record { held = ap (λ (x : Link). x.header) stored ∙ locked.header; knows = holds }

-- a frame whose tag is known has BM_TAG_VALID
pub tag_known : (l : Link) (w : StateWord) (tag : ℕ) → IsWordOf l w → l.tag ≡ Some tag → w.tag_valid ≡ true
tag_known l w tag shows known = shows.remembered (λ none. let no : Some tag ≡ None = sym known ∙ none in absurd (cc))
