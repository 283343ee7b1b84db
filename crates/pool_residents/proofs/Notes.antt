-- Frames are looked at one after the other, and the tags of the valid ones noted.
use Rattle.std.proofs.Common.{◌≡◌, ◌∙◌, ℕ, ◌+◌, ◌<◌, true, Option, Some, None, List, [], ◌∷◌, ◌++◌, append-nil, arith, length, length-append, map, refl, sym, ap, subst, nat_lt}
use Rattle.std.specs.Prelude.{All, IfSome, flat_map, option_map, slice_get, unwrap_or}
use Rattle.std.proofs.lemmas.List.Concat.{flat_map-append}
use Rattle.std.proofs.lemmas.List.Elements.{All-nil, All-push, All-weaker}
use Rattle.std.proofs.lemmas.Option.{slice_get_within}
use Rattle.block_tag.specs.declared.catalogue.RelEntry.{RelEntry}
use Rattle.block_tag.specs.declared.tag.Tag.{Tag}
use Rattle.block_tag.specs.Names.{names_block, packed_tag}
use Rattle.block_tag.specs.Catalogue.{blocks_of}
use Rattle.block_lists.specs.Tags.{IsNamedIn}
use Rattle.pin_core.specs.declared.view.View.{View}
use Rattle.table_rule.specs.Blocks.{has_block}
use Rattle.buffer_frames.specs.declared.inspecting.Seen.{Seen}
use Rattle.buffer_frames.specs.Inspections.{Inspects}
use Rattle.pool_residents.specs.Residents.{HasTagIfValid, IsBlockIn, NotesFrames, still, again, valid_tag}

-- the relation of a block is one of the catalogue's
block_relation : (relations : List RelEntry) (tag : Tag) → has_block relations tag ≡ true → tag.rel.0 < length relations
block_relation relations tag e = by_entry (slice_get relations tag.rel.0) refl
  where
    by_entry : (o : Option RelEntry) → slice_get relations tag.rel.0 ≡ o → tag.rel.0 < length relations
    by_entry (Some entry) is = slice_get_within relations tag.rel.0 entry is
    by_entry None is = absurd (let no : nat_lt tag.block 0 ≡ true = sym (ap (λ (o : Option RelEntry). nat_lt tag.block (unwrap_or (option_map (λ (entry : RelEntry). blocks_of entry tag.fork) o) 0)) is) ∙ e in grind (arith))

named_in : (relations : List RelEntry) (tag : Tag) → IsBlockIn relations tag → IsNamedIn relations tag
named_in relations tag b = record { block = b.named; relation = block_relation relations tag b.listed }

pub all_named : (relations catalogue : List RelEntry) (tags given : List Tag) → catalogue ≡ relations → given ≡ tags → All (IsBlockIn relations) tags → All (IsNamedIn catalogue) given
all_named relations catalogue tags given same is blocks =
    subst (λ (r : List RelEntry). All (IsNamedIn r) given) (sym same)
    (subst (λ (l : List Tag). All (IsNamedIn relations) l) (sym is) (All-weaker (IsBlockIn relations) (IsNamedIn relations) (λ tag b. named_in relations tag b) tags blocks))

-- the tag of a frame is that of a block of the relations
pub block_in : (relations : List RelEntry) (o : Option Tag) → IfSome o (λ (tag : Tag). names_block tag ≡ true) → IfSome o (λ (tag : Tag). has_block relations tag ≡ true) → IfSome o (IsBlockIn relations)
block_in relations (Some tag) named listed = record { named = named; listed = listed }
block_in relations None named listed = tt

-- one more tag
pub blocks_more : (relations : List RelEntry) (tags more : List Tag) (tag : Tag) (o : Option Tag) → o ≡ Some tag → more ≡ tags ++ tag ∷ [] → IfSome o (IsBlockIn relations) → All (IsBlockIn relations) tags → All (IsBlockIn relations) more
blocks_more relations tags more tag o is pushed block all = subst (λ (l : List Tag). All (IsBlockIn relations) l) (sym pushed) (All-push (IsBlockIn relations) tags tag all (subst (λ (x : Option Tag). IfSome x (IsBlockIn relations)) is block))

-- before the first frame, and after one more
pub notes_none : (v : View) (tags : List Tag) → tags ≡ [] → NotesFrames v 0 v tags
notes_none v tags e = record { all = []; each = still; counted = refl; tagged = All-nil HasTagIfValid; noted = ap (λ (l : List Tag). map packed_tag l) e }

pub notes_more : (v : View) (f : ℕ) (u w : View) (seen : Seen) (tags more : List Tag) → Inspects f seen u w → HasTagIfValid seen → map packed_tag more ≡ map packed_tag tags ++ valid_tag seen → NotesFrames v f u tags → NotesFrames v (f + 1) w more
notes_more v f u w seen tags more i tagged e n = record {
  all = n.all ++ seen ∷ [];
  each = again n.all seen n.each (subst (λ (g : ℕ). Inspects g seen u w) (sym n.counted) i);
  counted = let long = length-append n.all (seen ∷ []) in let counted = n.counted in omega arith;
  tagged = All-push HasTagIfValid n.all seen n.tagged tagged;
  noted = e ∙ ap (λ (l : List ℕ). l ++ valid_tag seen) n.noted ∙ ap (λ (l : List ℕ). flat_map valid_tag n.all ++ l) (sym (append-nil (valid_tag seen))) ∙ sym (flat_map-append valid_tag n.all (seen ∷ []));
}
