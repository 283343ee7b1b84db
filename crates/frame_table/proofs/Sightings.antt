-- What a load of a frame's words shows of the blocks that a view has seen there.
use Rattle.std.proofs.Common.{◌≡◌, ℕ, Bool, true, false, cond, List, [], ◌∷◌, ◌++◌, length, map, Option, Some, None, eq-eqb, nat_eq, sym, refl, ap, ◌∙◌, arith}
use Rattle.std.specs.Prelude.{not, ◌||◌, ◌&&◌}
use Rattle.std.proofs.lemmas.Bool.{eqb-true}
use mathlib.Core.Option.{some}
use lib.ListN.{get_elem?}
use Rattle.state_word.specs.declared.word.StateWord.{StateWord}
use Rattle.state_word.specs.Fields.{fields}
use Rattle.pin_core.specs.declared.view.Link.{Link}
use Rattle.pin_core.specs.declared.view.Resident.{Resident}
use Rattle.pin_core.specs.declared.view.View.{View}
use Rattle.pin_core.specs.State.{link}
use Rattle.pin_core.specs.Kinds as pin
use Rattle.pin_core.specs.Kinds.{seen_gone, sighted}
use Rattle.frame_table.specs.Kinds.{pins, link_after}
use Rattle.frame_table.specs.FrameSteps.{Did, looking}
use Rattle.frame_table.specs.Seats.{HasResident}
use Rattle.history_core.proofs.Listed.{at_mapped}
use Rattle.frame_table.proofs.Told.{link_is}
use Rattle.grid.proofs.Lists.{at_last, at_longer}

-- the last one of a list
listed_last : (f tag : ℕ) (rs all : List Resident) (l : Link) (v : View) → v.residents ≡ all → all ≡ rs ++ sighted l.seen_valid l.tag f → l.seen_valid ≡ true → l.tag ≡ Some tag → HasResident f tag v
listed_last f tag rs all l v is all_is saw known = let r : Resident = record { frame = f; tag = tag; gone = false } in
    let listed : v.residents ≡ rs ++ r ∷ [] = is ∙ all_is ∙ ap (λ (b : Bool). rs ++ sighted b l.tag f) saw ∙ ap (λ (o : Option ℕ). rs ++ sighted true o f) known in
    (length rs, r, ap (λ (x : List Resident). get_elem? x (length rs)) listed ∙ at_last rs r, refl, refl)

-- after a load of the state word the view lists what its pin knows then
pub looked_resident : (f word tag : ℕ) (v w : View) → Did looking f v w word → (link w f).seen_valid ≡ true → (link w f).tag ≡ Some tag → HasResident f tag w
looked_resident f word tag v w d saw known = let fr = d.state.pool.core.frame f in let l = link_after looking d.state f v in let e = link_is looking f word v w d in
    listed_last f tag (seen_gone (λ (r : Resident). not fr.word.valid) f v.residents) (pin.residents_after pin.load_state f fr (link v f) v.residents) l w (ap (λ (x : View). x.residents) d.after) refl (ap (λ (x : Link). x.seen_valid) (sym e) ∙ saw) (ap (λ (x : Link). x.tag) (sym e) ∙ known)

-- What two loads show of a block that the view has seen at the frame: unless it is marked as gone, the frame is valid, and has its tag
pub record SeesStill (f word tag : ℕ) (r : Resident) (w : View) (k : ℕ) : Type 0 where
  pub now : Resident
  pub there : get_elem? w.residents k ≡ some now
  pub frame : now.frame ≡ r.frame
  pub tag_is : now.tag ≡ r.tag
  pub still : now.gone ≡ false → ((fields word).valid ≡ true) × (tag ≡ r.tag)

kept_if : (gone here shown : Bool) → here ≡ true → (gone || (here && shown)) ≡ false → (gone ≡ false) × (shown ≡ false)
kept_if gone here shown e is = (grind (arith), grind (arith))

not_false : (b : Bool) → not b ≡ false → b ≡ true
not_false true e = refl
not_false false e = absurd (cc)

pub gone_unless : (f word tag : ℕ) (v u w : View) → Did looking f v u word → Did (pins pin.load_tag) f u w tag → (k : ℕ) (r : Resident) → get_elem? v.residents k ≡ some r → r.frame ≡ f → SeesStill f word tag r w k
gone_unless f word tag v u w first second k r at here = let fr = first.state.pool.core.frame f in let gr = second.state.pool.core.frame f in
    let p : Resident → Bool = λ (x : Resident). not fr.word.valid in let q : Resident → Bool = λ (x : Resident). not (nat_eq x.tag gr.tag) in
    let mark : (Resident → Bool) → Resident → Resident = λ (z : Resident → Bool) (x : Resident). record x { gone = x.gone || (nat_eq x.frame f && z x) } in
    let a : Resident = mark p r in let b : Resident = mark q a in
    let in_u : get_elem? u.residents k ≡ some a = ap (λ (x : View). get_elem? x.residents k) first.after ∙ at_longer (seen_gone p f v.residents) (sighted (link_after looking first.state f v).seen_valid (link_after looking first.state f v).tag f) k a (at_mapped (mark p) v.residents k r at) in
    let in_w : get_elem? w.residents k ≡ some b = ap (λ (x : View). get_elem? x.residents k) second.after ∙ at_longer (seen_gone q f u.residents) (sighted (link_after (pins pin.load_tag) second.state f u).seen_valid (link_after (pins pin.load_tag) second.state f u).tag f) k b (at_mapped (mark q) u.residents k a in_u) in
    let is : nat_eq r.frame f ≡ true = eq-eqb r.frame f here in record {
      now = b;
      there = in_w;
      frame = refl;
      tag_is = refl;
      still = λ e. let y = kept_if a.gone (nat_eq r.frame f) (not (nat_eq r.tag gr.tag)) is e in let x = kept_if r.gone (nat_eq r.frame f) (not fr.word.valid) is y.0 in (
        ap (λ (z : StateWord). z.valid) (sym first.says) ∙ not_false fr.word.valid x.1,
        sym second.says ∙ sym (eqb-true r.tag gr.tag (not_false (nat_eq r.tag gr.tag) y.1)),
      );
    }
