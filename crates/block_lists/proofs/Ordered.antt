-- Tags and their numbers: a tag is among some if its number is among theirs.
use Rattle.std.proofs.Common.{◌≡◌, ◌<◌, ◌≤◌, ◌+◌, ◌++◌, ◌∷◌, [], ℕ, IfOk, Ok, Err, Result, take, List, All, Contains, IsSome, Option, Some, arith, get_or, length, map, refl, sym, ◌∙◌, ap, subst}
use Rattle.std.specs.List.Sorted.{IsStrictlyIncreasing}
use Rattle.std.proofs.lemmas.List.{get_or-map, length-map, map_more}
use Rattle.std.proofs.lemmas.List.Elements.{All-contains, All-contains_itself, All-map, All-more, All-push, All-weaker, Contains-get_or}
use Rattle.block_tag.specs.Names.{packed_tag, tag_of_parts, unpacked_tag}
use Rattle.block_tag.specs.declared.tag.Fork.TheVariants.{Main}
use Rattle.block_tag.specs.declared.tag.Tag.{Tag}
use Rattle.block_lists.specs.Lists.{AreBlockNumbers, block_line, list_text}
use Rattle.block_lists.specs.Tags.{IsOrderOf, IsRead}
use Rattle.block_lists.proofs.Listed.{list_text-push}

contains-map : {X Y : Type 0} (f : X → Y) (xs : List X) (x : X) → Contains xs x → Contains (map f xs) (f x)
contains-map f xs x (k, below, here) = (k, simp length-map below, get_or-map f xs k x (f x) below ∙ ap f here)

contains-from_map : {X Y : Type 0} (f : X → Y) (xs : List X) (d : X) (y : Y) → Contains (map f xs) y → (x : X) × Contains xs x × (f x ≡ y)
contains-from_map f xs d y (k, below, here) =
    let within : k < length xs = simp length-map at below in
    (get_or xs k d, Contains-get_or xs k d within, sym (get_or-map f xs k d y within) ∙ here)

-- if tags are among others, so are their numbers
pub numbers_among : (tags others : List Tag) → ((tag : Tag) → Contains tags tag → Contains others tag) → (n : ℕ) → Contains (map packed_tag tags) n → Contains (map packed_tag others) n
numbers_among tags others among n there =
    let found = contains-from_map packed_tag tags (tag_of_parts 0 Main 0) n there in
    subst (λ (x : ℕ). Contains (map packed_tag others) x) found.2 (contains-map packed_tag others found.0 (among found.0 found.1))

-- numbers among those of tags that are read from their numbers are read
pub some_read : (tags : List Tag) (packed : List ℕ) → All IsRead tags → ((n : ℕ) → Contains packed n → Contains (map packed_tag tags) n) → All (λ n. IsSome (unpacked_tag n)) packed
some_read tags packed read among =
    let Reads : ℕ → Type 0 = λ n. IsSome (unpacked_tag n) in
    let each : All (λ (tag : Tag). Reads (packed_tag tag)) tags = All-weaker IsRead (λ (tag : Tag). Reads (packed_tag tag)) (λ tag is. subst (λ (o : Option Tag). IsSome o) (sym is) refl) tags read in
    let all : All Reads (map packed_tag tags) = All-map Reads packed_tag tags each in
    All-weaker (Contains packed) Reads (λ n there. All-contains Reads (map packed_tag tags) n all (among n there)) packed (All-contains_itself packed)

same_tag : (t u : Tag) → IsRead t → IsRead u → packed_tag t ≡ packed_tag u → t ≡ u
same_tag t u a b same =
    let one : Some t ≡ Some u = sym a ∙ ap unpacked_tag same ∙ b in cc

-- each tag of some is among others, if each of their numbers is among the others'
among_tags : (tags others : List Tag) → All IsRead tags → All IsRead others → ((n : ℕ) → Contains (map packed_tag tags) n → Contains (map packed_tag others) n) → (tag : Tag) → Contains tags tag → Contains others tag
among_tags tags others read reads among tag there =
    let found = contains-from_map packed_tag others tag (packed_tag tag) (among (packed_tag tag) (contains-map packed_tag tags tag there)) in
    let same : found.0 ≡ tag = same_tag found.0 tag (All-contains IsRead others found.0 reads found.1) (All-contains IsRead tags tag read there) found.2 in
    subst (λ (t : Tag). Contains others t) same found.1

-- tags whose numbers are those of others in order are the others in order
pub ordered : (tags listed : List Tag) (packed : List ℕ) → All IsRead tags → All IsRead listed → map packed_tag listed ≡ packed → IsStrictlyIncreasing packed → ((n : ℕ) → Contains (map packed_tag tags) n → Contains packed n) → ((n : ℕ) → Contains packed n → Contains (map packed_tag tags) n) → length packed ≤ length (map packed_tag tags) → IsOrderOf tags listed
ordered tags listed packed read reads is rises keeps adds_none few = record {
  rises = subst IsStrictlyIncreasing (sym is) rises;
  keeps = among_tags tags listed read reads (λ n there. subst (λ (ns : List ℕ). Contains ns n) (sym is) (keeps n there));
  adds_none = among_tags listed tags reads read (λ n there. adds_none n (subst (λ (ns : List ℕ). Contains ns n) is there));
  few = omega (arith, few, ap length is, length-map tags packed_tag, length-map listed packed_tag);
}

pub ordered_result : (tags : List Tag) (packed : List ℕ) → All IsRead tags → IsStrictlyIncreasing packed → ((n : ℕ) → Contains (map packed_tag tags) n → Contains packed n) → ((n : ℕ) → Contains packed n → Contains (map packed_tag tags) n) → length packed ≤ length (map packed_tag tags) → {V E : Type 0} (items : V → List Tag) (r : Result V E) → IfOk r (λ v. map packed_tag (items v) ≡ packed) → IfOk r (λ v. All IsRead (items v)) → IfOk r (λ v. IsOrderOf tags (items v))
ordered_result tags packed read rises keeps adds_none few items (Ok v) numbers reads = ordered tags (items v) packed read reads numbers rises keeps adds_none few
ordered_result tags packed read rises keeps adds_none few items (Err e) numbers reads = tt

-- what holds of tags holds of them in order
pub all_ordered : (P : Tag → Type 0) (tags listed : List Tag) → IsOrderOf tags listed → All P tags → All P listed
all_ordered P tags listed order all = All-weaker (Contains listed) P (λ tag there. All-contains P tags tag all (order.adds_none tag there)) listed (All-contains_itself listed)

-- one tag's number more
pub packed_more : (tags : List Tag) (k : ℕ) (d : Tag) (packed more : List ℕ) (number : ℕ) → k < length tags → unpacked_tag number ≡ Some (get_or tags k d) → number ≡ packed_tag (get_or tags k d) → more ≡ packed ++ (number ∷ []) → packed ≡ map packed_tag (take k tags) → All IsRead (take k tags) → (more ≡ map packed_tag (take (k + 1) tags)) × All IsRead (take (k + 1) tags)
packed_more tags k d packed more number below back is pushed before read = (
  pushed ∙ ap (λ (ns : List ℕ). ns ++ (number ∷ [])) before ∙ ap (λ (n : ℕ). map packed_tag (take k tags) ++ (n ∷ [])) is ∙ sym (map_more packed_tag tags k d below),
  All-more IsRead tags k d below read (ap unpacked_tag (sym is) ∙ back),
)

-- one tag's line more
pub tag_line_more : (numbers : Tag → List ℕ) (tags : List Tag) (k : ℕ) (d : Tag) (lines more : List ℕ) → k < length tags → more ≡ lines ++ block_line (numbers (get_or tags k d)) → AreBlockNumbers (numbers (get_or tags k d)) → lines ≡ list_text (map numbers (take k tags)) → All AreBlockNumbers (map numbers (take k tags)) → (more ≡ list_text (map numbers (take (k + 1) tags))) × All AreBlockNumbers (map numbers (take (k + 1) tags))
tag_line_more numbers tags k d lines more below put good before all =
    let one : map numbers (take (k + 1) tags) ≡ map numbers (take k tags) ++ (numbers (get_or tags k d) ∷ []) = map_more numbers tags k d below in (
      put ∙ ap (λ (l : List ℕ). l ++ block_line (numbers (get_or tags k d))) before ∙ sym (list_text-push (map numbers (take k tags)) (numbers (get_or tags k d))) ∙ ap (λ (bs : List (List ℕ)). list_text bs) (sym one),
      subst (λ (bs : List (List ℕ)). All AreBlockNumbers bs) (sym one) (All-push AreBlockNumbers (map numbers (take k tags)) (numbers (get_or tags k d)) all good),
    )
