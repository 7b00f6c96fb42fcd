use Rattle.std.proofs.Common.{rules, ◌≡◌, ◌++◌, map, vec_items, codes, Ok, ap, ◌∙◌, append_assoc}
use Rattle.std.proofs.lemmas.Iterator.{YieldsList-from_slice, YieldsList-from_map}
use Rattle.std.proofs.lemmas.Iterator.Consumers.{YieldsList-from_copied}
use Rattle.std.proofs.lemmas.Iterator.Adapters.{items_from_extend}
use Rattle.files.specs.Complaints.{shown_byte, under_byte}
use Rattle.files.proofs.complaining.put_marked.Goals as goal

pub returns : goal.returns
returns c =
    let said = vec_items c.args.said.now in
    let front = c.args.front.now in
    let back = c.args.back.now in
    let first : vec_items c.extend.new.self ≡ said ++ map shown_byte front =
    (items_from_extend {E = Unit {0}} (Ok c.in_ok-extend.field-0) c.in_ok-extend.ensures.ran
    (YieldsList-from_map _ shown_byte (YieldsList-from_copied (YieldsList-from_slice front cc)) c.map.ensures.closure (λ x r q k. search rules))).0 in
    let second : vec_items c.extend-2.new.self ≡ vec_items c.extend.new.self ++ map shown_byte back =
    (items_from_extend {E = Unit {0}} (Ok c.in_ok-extend-2.field-0) c.in_ok-extend-2.ensures.ran
    (YieldsList-from_map _ shown_byte (YieldsList-from_copied (YieldsList-from_slice back cc)) c.map-2.ensures.closure (λ x r q k. search rules))).0 in
    let under : vec_items c.extend-3.new.self ≡ vec_items c.extend_from_slice.new.self ++ map under_byte front =
    (items_from_extend {E = Unit {0}} (Ok c.in_ok-extend-3.field-0) c.in_ok-extend-3.ensures.ran
    (YieldsList-from_map _ under_byte (YieldsList-from_copied (YieldsList-from_slice front cc)) c.map-3.ensures.closure (λ x r q k. search rules))).0 in
    let items : vec_items c.extend_from_slice-2.new.self ≡ ((((said ++ map shown_byte front) ++ map shown_byte back) ++ codes "\n") ++ map under_byte front) ++ codes "^\n" =
    c.in_ok-extend_from_slice-2.ensures.items
    ∙ ap (λ xs. xs ++ codes "^\n") (under ∙ ap (λ xs. xs ++ map under_byte front) (c.in_ok-extend_from_slice.ensures.items
    ∙ ap (λ xs. xs ++ codes "\n") (second ∙ ap (λ xs. xs ++ map shown_byte back) first))) in
    items ∙ simp append_assoc
