use Rattle.std.proofs.Common.{ap, refl, subst, sym, ◌∙◌}
use Rattle.std.proofs.lemmas.Bool.{false≢true}
use Rattle.page_layout.specs.declared.summary.PointerCounts.{PointerCounts}
use Rattle.page_layout.specs.Soundness.{IsUsedPage}
use Rattle.page_layout.proofs.Apart.{items_arrive}
use Rattle.page_layout.proofs.Compactable.{compactable_from}
use Rattle.page_layout.proofs.After.{outcome_changed, outcome_same, outcome_skipped, same_iff, rewritten_is_used, skipped_iff}
use Rattle.page_layout.proofs.rewrite.rewritten.Goals as goal

pub compact_from-requires : goal.compact_from-requires
compact_from-requires c = compactable_from c.args.page.now c.bytes-before.ensures.size c.requires.sound c.requires.used (sym c.is_skipped.ensures ∙ c.if-is_skipped.false)

pub returns-then-is_skipped : goal.returns-then-is_skipped
returns-then-is_skipped c =
    let skipped = sym c.is_skipped.ensures ∙ c.if-is_skipped.true in
    let outcome = outcome_skipped c.args.page.now skipped in
    record {
      outcome = outcome;
      skipped = skipped_iff c.args.page.now _ outcome;
      same = same_iff c.args.page.now _ outcome;
      rewritten = λ kept. absurd (false≢true (sym kept ∙ skipped));
      left_alone = λ e. refl;
      items = λ kept. absurd (false≢true (sym kept ∙ skipped));
      stays_used = λ kept. absurd (false≢true (sym kept ∙ skipped));
    }

pub returns-then-eq : goal.returns-then-eq
returns-then-eq c =
    let page = c.args.page.now in
    let kept = sym c.is_skipped.ensures ∙ c.if-is_skipped.false in
    let fits = compactable_from page c.bytes-before.ensures.size c.requires.sound c.requires.used kept in
    let outcome = outcome_same page c.bytes.result.now c.bytes-before.result.now c.compact_from.new.self c.eq.result kept c.compact_from.ensures c.bytes.ensures.bytes c.bytes-before.ensures.bytes c.eq.ensures c.if-eq.true in
    record {
      outcome = outcome;
      skipped = skipped_iff page _ outcome;
      same = same_iff page _ outcome;
      rewritten = λ e. c.compact_from.ensures;
      left_alone = λ e. absurd (false≢true (sym kept ∙ e));
      items = λ e. items_arrive page c.compact_from.new.self fits c.compact_from.ensures;
      stays_used = λ e. subst IsUsedPage (sym c.compact_from.ensures) (rewritten_is_used page fits c.requires.sound c.requires.used);
    }

pub returns : goal.returns
returns c =
    let page = c.args.page.now in
    let kept = sym c.is_skipped.ensures ∙ c.if-is_skipped.false in
    let fits = compactable_from page c.bytes-before.ensures.size c.requires.sound c.requires.used kept in
    let outcome = outcome_changed page c.bytes.result.now c.bytes-before.result.now c.compact_from.new.self c.eq.result c.pointer_counts-dead.result.dead kept c.compact_from.ensures c.bytes.ensures.bytes c.bytes-before.ensures.bytes c.eq.ensures c.if-eq.false (ap (λ (p : PointerCounts). p.dead) c.pointer_counts-dead.ensures.counts) in
    record {
      outcome = outcome;
      skipped = skipped_iff page _ outcome;
      same = same_iff page _ outcome;
      rewritten = λ e. c.compact_from.ensures;
      left_alone = λ e. absurd (false≢true (sym kept ∙ e));
      items = λ e. items_arrive page c.compact_from.new.self fits c.compact_from.ensures;
      stays_used = λ e. subst IsUsedPage (sym c.compact_from.ensures) (rewritten_is_used page fits c.requires.sound c.requires.used);
    }
