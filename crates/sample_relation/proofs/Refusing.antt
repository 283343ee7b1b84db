-- A write to a lane of which no call is to fail: it fails only if there is no room for the block.
use Rattle.std.proofs.Common.{◌≡◌, Bool, true, false, cond, List, ℕ, Option, Some, None, Result, Ok, Err, inl, inr, refl, sym, ap, ◌∙◌, arith}
use Rattle.std.specs.Prelude.{OnErr, is_ok, is_some, option_map}
use Rattle.block_tag.specs.Names.{tag_eq}
use Rattle.block_tag.specs.declared.tag.Tag.{Tag}
use Rattle.segment_store.specs.Contents.{AfterFailure, AfterWrite, Marks, Pages, no_marks}
use Rattle.segment_store.proofs.Dealing.{unmarked_stays}

tag_itself : (a : Tag) → tag_eq a a ≡ true
tag_itself a = grind arith

-- nothing stands at a tag for which there is no room
lacks : (page : Option (List ℕ)) (room : Bool) → (is_some page ≡ true → room ≡ true) → false ≡ room → page ≡ None
lacks None room fits full = refl
lacks (Some page) room fits full = absurd (cc (full ∙ fits refl))

-- what isn't there isn't torn
not_torn : (tag : Tag) (marks marks_now : Marks) (pages after : Pages) → pages tag ≡ None → after tag ≡ None → AfterFailure tag pages marks after marks_now → AfterFailure tag pages no_marks after no_marks
not_torn tag marks marks_now pages after lacked gone (inl torn) =
    let left = torn.0.left in
    let there : after tag ≡ Some left = ap (λ (m : Pages). m tag) torn.0.is ∙ ap (λ (b : Bool). cond b (Some left) (pages tag)) (tag_itself tag) in
    let bad : false ≡ true = ap (λ (o : Option (List ℕ)). is_some o) (sym gone ∙ there) in
    absurd (cc bad)
not_torn tag marks marks_now pages after lacked gone (inr refused) = inr (record { lacked = lacked; pages_stay = refused.pages_stay; marks_stay = refl })

-- no block is marked after a write, whatever its result
pub refusing_write : {E : Type 0} (tag : Tag) (page : List ℕ) (tear : List ℕ → List ℕ) (marks marks_now : Marks) (pages after : Pages) (room : Bool) (result : Result Unit E) → (is_some (pages tag) ≡ true → room ≡ true)
    → is_ok result ≡ room → OnErr result (after tag ≡ option_map tear (pages tag)) → AfterWrite tag page (Some pages) marks (Some after) marks_now result → AfterWrite tag page (Some pages) no_marks (Some after) no_marks result
refusing_write tag page tear marks marks_now pages after room (Ok u) fits answer torn written = (written.0, sym (unmarked_stays tag))
refusing_write tag page tear marks marks_now pages after room (Err why) fits answer torn written =
    let lacked = lacks (pages tag) room fits answer in
    not_torn tag marks marks_now pages after lacked (torn ∙ ap (λ (o : Option (List ℕ)). option_map tear o) lacked) written
