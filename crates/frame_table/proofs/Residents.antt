-- The blocks that a view has seen in frames stay listed.
use Rattle.std.proofs.Common.{◌≡◌, ℕ, true, List, ◌++◌, refl, ap, ◌∙◌}
use Rattle.std.specs.Prelude.{Bool, nat_eq, not, ◌||◌, ◌&&◌}
use mathlib.Core.Option.{some}
use lib.ListN.{get_elem?}
use Rattle.pin_core.specs.declared.view.Link.{Link}
use Rattle.pin_core.specs.declared.view.Resident.{Resident}
use Rattle.pin_core.specs.State.{Frame}
use Rattle.pin_core.specs.Kinds as pin
use Rattle.pin_core.specs.Kinds.{seen_gone, sighted}
use Rattle.page_core.specs.Kinds as paged
use Rattle.frame_table.specs.Seats.{IsListedStill, KeepsResidents}
use Rattle.grid.proofs.Lists.{at_longer}
use Rattle.history_core.proofs.Listed.{at_mapped}

listed_still : (r : Resident) → IsListedStill r r
listed_still r = record { frame = refl; tag = refl; gone = λ e. e }

pub residents_same : (before after : List Resident) → after ≡ before → KeepsResidents before after
residents_same before after same k r at = (r, ap (λ (l : List Resident). get_elem? l k) same ∙ at, listed_still r)

pub residents_on : (a b c : List Resident) → KeepsResidents a b → KeepsResidents b c → KeepsResidents a c
residents_on a b c first second k r at = let x = first k r at in let y = second k x.0 x.1 in (y.0, y.1, record { frame = y.2.frame ∙ x.2.frame; tag = y.2.tag ∙ x.2.tag; gone = λ e. y.2.gone (x.2.gone e) })

residents_longer : (rs more : List Resident) → KeepsResidents rs (rs ++ more)
residents_longer rs more k r at = (r, at_longer rs more k r at, listed_still r)

-- what a load has shown to be gone is marked
residents_gone : (p : Resident → Bool) (f : ℕ) (rs : List Resident) → KeepsResidents rs (seen_gone p f rs)
residents_gone p f rs k r at = let g : Resident → Resident = λ (x : Resident). record x { gone = x.gone || (nat_eq x.frame f && p x) } in
    (g r, at_mapped g rs k r at, record { frame = refl; tag = refl; gone = λ e. ap (λ (b : Bool). b || (nat_eq r.frame f && p r)) e })

seen : (p : Resident → Bool) (f : ℕ) (rs more : List Resident) → KeepsResidents rs (seen_gone p f rs ++ more)
seen p f rs more = residents_on rs (seen_gone p f rs) (seen_gone p f rs ++ more) (residents_gone p f rs) (residents_longer (seen_gone p f rs) more)

pub residents_pinned : (k : pin.Kind) (f : ℕ) (fr : Frame) (l : Link) (rs : List Resident) → KeepsResidents rs (pin.residents_after k f fr l rs)
residents_pinned pin.load_state f fr l rs = seen (λ (r : Resident). not fr.word.valid) f rs (sighted (pin.link_after pin.load_state fr l).seen_valid (pin.link_after pin.load_state fr l).tag f)
residents_pinned pin.load_tag f fr l rs = seen (λ (r : Resident). not (nat_eq r.tag fr.tag)) f rs (sighted (pin.link_after pin.load_tag fr l).seen_valid (pin.link_after pin.load_tag fr l).tag f)
residents_pinned k f fr l rs = residents_same rs rs refl

pub residents_paged : (k : paged.Kind) (f : ℕ) (l : Link) (rs : List Resident) → KeepsResidents rs (paged.residents_after k f l rs)
residents_paged (paged.end_io end) f l rs = residents_longer rs (paged.sighted_by end l.tag f)
residents_paged k f l rs = residents_same rs rs refl
