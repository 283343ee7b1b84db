-- What a rewrite tells of the pages of a relation: what becomes of each, then the totals.
use Rattle.std.specs.Prelude.{◌≡◌, ℕ, ◌+◌, ◌*◌, ◌≤◌, Bool, true, false, List, [], ◌∷◌, codes}
use Rattle.std.specs.Prelude.{count_by, length, map, sum_by, if◌then◌else◌}
use Rattle.std.specs.Fmt.{decimal}
use Rattle.page_layout.specs.declared.outcomes.PageRewrite.{PageRewrite}
use Rattle.page_layout.specs.declared.outcomes.PageRewrite.TheVariants.{Invalid, New, Used}
use Rattle.page_layout.specs.declared.outcomes.RewriteTotals.{RewriteTotals}
use Rattle.page_layout.specs.declared.rewrite.Rewrite.TheVariants.{Same, Changed, Skipped}
use Rattle.page_layout.specs.Rewritten.{rewrite_of}
use Rattle.page_layout.specs.Soundness.{is_new_page, is_sound_page}
use Rattle.page_layout.specs.Text.{joined}

-- what a rewrite tells of a page: that it isn't sound, that it is new, or what becomes of it
unfoldable pub page_rewrite_of : List ℕ → PageRewrite
page_rewrite_of page =
    if is_sound_page page then (if is_new_page page then New else Used (rewrite_of page))
    else Invalid

abbrev pub no_rewrite_totals : RewriteTotals
no_rewrite_totals =
    record { blocks = 0; changed = 0; same = 0; skipped = 0; new = 0; invalid = 0; dead = 0 }

-- whether a page is changed, the same, skipped, new or invalid
abbrev pub is_changed_outcome : PageRewrite → Bool
is_changed_outcome Invalid = false
is_changed_outcome New = false
is_changed_outcome (Used Same) = false
is_changed_outcome (Used (Changed dead)) = true
is_changed_outcome (Used Skipped) = false

abbrev pub is_same_outcome : PageRewrite → Bool
is_same_outcome Invalid = false
is_same_outcome New = false
is_same_outcome (Used Same) = true
is_same_outcome (Used (Changed dead)) = false
is_same_outcome (Used Skipped) = false

abbrev pub is_skipped_outcome : PageRewrite → Bool
is_skipped_outcome Invalid = false
is_skipped_outcome New = false
is_skipped_outcome (Used Same) = false
is_skipped_outcome (Used (Changed dead)) = false
is_skipped_outcome (Used Skipped) = true

abbrev pub is_new_outcome : PageRewrite → Bool
is_new_outcome Invalid = false
is_new_outcome New = true
is_new_outcome (Used what) = false

abbrev pub is_invalid_outcome : PageRewrite → Bool
is_invalid_outcome Invalid = true
is_invalid_outcome New = false
is_invalid_outcome (Used what) = false

-- the dead line pointers of a page that is changed, and none of another
abbrev pub dead_of : PageRewrite → ℕ
dead_of Invalid = 0
dead_of New = 0
dead_of (Used Same) = 0
dead_of (Used (Changed dead)) = dead
dead_of (Used Skipped) = 0

-- how many pages there are of each kind, and how many line pointers were dead in the changed ones
abbrev pub totals_of_outcomes : List PageRewrite → RewriteTotals
totals_of_outcomes outcomes = record {
  blocks = length outcomes;
  changed = count_by is_changed_outcome outcomes;
  same = count_by is_same_outcome outcomes;
  skipped = count_by is_skipped_outcome outcomes;
  new = count_by is_new_outcome outcomes;
  invalid = count_by is_invalid_outcome outcomes;
  dead = sum_by dead_of outcomes;
}

-- the totals of pages
abbrev pub rewrite_totals_of : List (List ℕ) → RewriteTotals
rewrite_totals_of pages = totals_of_outcomes (map page_rewrite_of pages)

-- totals with a page more
abbrev pub with_outcome : RewriteTotals → PageRewrite → RewriteTotals
with_outcome t Invalid = record t { blocks = t.blocks + 1; invalid = t.invalid + 1 }
with_outcome t New = record t { blocks = t.blocks + 1; new = t.new + 1 }
with_outcome t (Used Same) = record t { blocks = t.blocks + 1; same = t.same + 1 }
with_outcome t (Used (Changed dead)) =
    record t { blocks = t.blocks + 1; changed = t.changed + 1; dead = t.dead + dead }
with_outcome t (Used Skipped) = record t { blocks = t.blocks + 1; skipped = t.skipped + 1 }

-- the sums of two totals
abbrev pub sum_of_rewrite_totals : RewriteTotals → RewriteTotals → RewriteTotals
sum_of_rewrite_totals t u = record {
  blocks = t.blocks + u.blocks;
  changed = t.changed + u.changed;
  same = t.same + u.same;
  skipped = t.skipped + u.skipped;
  new = t.new + u.new;
  invalid = t.invalid + u.invalid;
  dead = t.dead + u.dead;
}

unfoldable pub rewrite_totals_text : RewriteTotals → List ℕ
rewrite_totals_text t =
    joined (codes "blocks " ∷ decimal t.blocks ∷ codes " changed " ∷ decimal t.changed
    ∷ codes " same " ∷ decimal t.same ∷ codes " skipped " ∷ decimal t.skipped ∷ codes " new "
    ∷ decimal t.new ∷ codes " invalid " ∷ decimal t.invalid ∷ codes " dead " ∷ decimal t.dead ∷ [])

-- no number is above what this many pages can give, each with fewer than 65536 line pointers
pub record IsRewriteWithin (t : RewriteTotals) (blocks : ℕ) : Type 0 where
  pub blocks_are : t.blocks ≡ blocks
  pub changed : t.changed ≤ blocks
  pub same : t.same ≤ blocks
  pub skipped : t.skipped ≤ blocks
  pub new : t.new ≤ blocks
  pub invalid : t.invalid ≤ blocks
  pub dead : t.dead ≤ 65535 * blocks
