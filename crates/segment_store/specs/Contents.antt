-- What lanes hold, if it is known: None if it isn't.
use Rattle.std.specs.Prelude.{◌≡◌, ◌⊎◌, ℕ, List, length, Option, Some, None, Bool, true, false}
use Rattle.std.specs.Prelude.{Result, IfSome, IsSomeAnd, MatchResult, if◌then◌else◌, is_some}
use Rattle.block_tag.specs.Names.{tag_eq}
use Rattle.block_tag.specs.declared.tag.Tag.{Tag}

-- pages by their tags
abbrev pub Pages : Type 0
Pages = Tag → Option (List ℕ)

-- tags, each either marked or not
abbrev pub Marks : Type 0
Marks = Tag → Bool

-- the same pages but for this one
abbrev pub with_page : Tag → List ℕ → Pages → Pages
with_page tag page pages = λ t. if tag_eq t tag then Some page else pages t

-- the same marks but for this one
abbrev pub with_mark : Tag → Bool → Marks → Marks
with_mark tag mark marks = λ t. if tag_eq t tag then mark else marks t

-- no tag has a page
abbrev pub no_pages : Pages
no_pages = λ t. None

-- no tag is marked
abbrev pub no_marks : Marks
no_marks = λ t. false

-- each page has 8192 bytes
abbrev pub AreFullPages : Pages → Type 0
AreFullPages pages = (tag : Tag) → IfSome (pages tag) (λ page. length page ≡ 8192)

-- some page of 8192 bytes stands at the tag, and all others are as they were
pub record IsTorn (tag : Tag) (pages after : Pages) : Type 0 where
  pub left : List ℕ
  pub size : length left ≡ 8192
  pub is : after ≡ with_page tag left pages

-- the tag had no page, and all is as it was
pub record IsRefused (tag : Tag) (pages : Pages) (marks : Marks) (after : Pages)
    (marks_now : Marks) : Type 0 where
  pub lacked : pages tag ≡ None
  pub pages_stay : after ≡ pages
  pub marks_stay : marks_now ≡ marks

-- after a failed write some page stands at the tag, which is marked; or a block that the lane
-- lacked is refused
abbrev pub AfterFailure : Tag → Pages → Marks → Pages → Marks → Type 0
AfterFailure tag pages marks after marks_now =
    (IsTorn tag pages after × (marks_now ≡ with_mark tag true marks))
    ⊎ IsRefused tag pages marks after marks_now

-- after a write this page stands at the tag, which isn't marked, or all is as a failed one leaves
-- it; contents that aren't known stay so
abbrev pub AfterWrite : {E : Type 0} → Tag → List ℕ → Option Pages → Marks → Option Pages → Marks
    → Result Unit E → Type 0
AfterWrite tag page None marks new marks_now result = new ≡ None
AfterWrite tag page (Some pages) marks new marks_now result =
    MatchResult result
    (λ _. (new ≡ Some (with_page tag page pages)) × (marks_now ≡ with_mark tag false marks))
    (λ _. IsSomeAnd new (λ after. AfterFailure tag pages marks after marks_now))

-- there is room for each tag that has a page
abbrev pub HasRoom : Marks → Pages → Type 0
HasRoom room pages = (tag : Tag) → is_some (pages tag) ≡ true → room tag ≡ true
