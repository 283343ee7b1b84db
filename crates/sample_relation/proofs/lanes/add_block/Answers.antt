use Rattle.std.proofs.Common.{◌≡◌, ◌<◌, ℕ, List, [], ◌∷◌, ◌++◌, length, map, get_or, set, Option, Some, None, ap, sym, ◌∙◌, subst}
use Rattle.std.proofs.lemmas.List.{get_or-map, length-map, map-set}
use Rattle.std.proofs.lemmas.Result.{on_ok_weaker}
use Rattle.block_tag.specs.Names.{lane_number}
use Rattle.block_tag.specs.declared.tag.Fork.TheVariants.{Main}
use Rattle.segment_store.specs.Contents.{Pages, with_page}
use Rattle.segment_store.specs.Lanes.{HoldPages, tag_at}
use Rattle.segment_store.specs.MemoryLane.{pages_of}
use Rattle.sample_relation.specs.Relations.{sample_relation}
use Rattle.sample_relation.specs.Samples.{sample_page}
use Rattle.sample_relation.specs.declared.lane.SampleLane.{SampleLane}
use Rattle.sample_relation.proofs.HeldBlocks.{hold_one_more, length_relation, relation_more}
use Rattle.sample_relation.proofs.lanes.add_block.Goals as goal

pub returns-clause-held : goal.returns-clause-held
returns-clause-held c =
    let seed = c.args.seed in
    let block = c.args.block in
    let lanes = c.args.lanes.now in
    let number = c.lane_of-number.result in
    let lane = get_or lanes number c.index-lanes-number.result in
    let tag = tag_at Main block in
    let contents : SampleLane → Option Pages = λ lane. Some (pages_of lane.lane) in
    let count : length (map contents lanes) ≡ length lanes = length-map lanes contents in
    let below : number < length lanes = c.lane_of-number.ensures.within in
    let own : number ≡ lane_number tag (length (map contents lanes)) = c.lane_of-number.ensures.value ∙ ap (λ (n : ℕ). lane_number tag n) (sym count) in
    let known : get_or (map contents lanes) number None ≡ Some (pages_of lane.lane) = get_or-map contents lanes number c.index-lanes-number.result None below in
    let within : number < length (map contents lanes) = subst (λ (n : ℕ). number < n) (sym count) below in
    let held = hold_one_more Main (sample_relation seed block) (sample_page seed block) (map contents lanes) (pages_of lane.lane) block number
    (sym (length_relation seed block)) own within known c.requires.held in
    on_ok_weaker c.hold.result
    (λ (put : pages_of c.hold.new.self.lane ≡ with_page tag c.sample_page.new.page (pages_of lane.lane)).
    let page = c.in_ok-sample_page.ensures.made in
    let after : map contents (set lanes number c.hold.new.self) ≡ set (map contents lanes) number (Some (with_page tag (sample_page seed block) (pages_of lane.lane))) =
    map-set contents lanes number c.hold.new.self
    ∙ ap (λ (held : Pages). set (map contents lanes) number (Some held)) (put ∙ ap (λ (p : List ℕ). with_page tag p (pages_of lane.lane)) page) in
    subst (λ (pages : List (List ℕ)). HoldPages Main pages (map contents (set lanes number c.hold.new.self))) (sym (relation_more seed block))
    (subst (λ (all : List (Option Pages)). HoldPages Main (sample_relation seed block ++ sample_page seed block ∷ []) all) (sym after) held))
    c.hold.ensures.pages
