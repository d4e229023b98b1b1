-- Data that a callback hands back, and a call, are of their operation.
use Rattle.fm_local.proofs.Words.{◌≡◌, ◌≤◌, Answer, BaseCall, Data, FlowRecord, List, None, Operation, Option, Params, Some, length, true, ℕ, ◌&&◌}
use Rattle.fm_local.proofs.Words.{◌==◌, ◌∙◌, ap, arith, eq-eqb, refl, nat_tests, data_fits, call_fits, fit, is_within_limits, base_fits, call_of}
use Rattle.std.specs.Prelude.{nat_le}
use Rattle.std.specs.Cmp.Lexicographic.{bytes_decides}
use Rattle.std.proofs.lemmas.Bool.{and_from, and_parts, eqb-true}
use Rattle.fm_types.specs.Masks.{operation_bit}
use Rattle.fm_callback_data.specs.Data.{IsData, change_passes}
use Rattle.fm_callback_data.specs.Params.{operation_of, path_of, same_operation, same_path, are_on, are_for, may_replace}

-- a create in place of another one is on the same path
on_same : (path : Option (List ℕ)) (p q : Params) → are_on path p ≡ true → are_on (path_of p) q ≡ true → are_on path q ≡ true
on_same path p (Params.Create own mode) on may = by_path p path own on may
  where
    by_path : (p : Params) (path : Option (List ℕ)) (own : List ℕ) → are_on path p ≡ true → same_path (Some own) (path_of p) ≡ true
        → same_path (Some own) path ≡ true
    by_path (Params.Create mine mode) (Some path) own on may = (bytes_decides own path).1 ((bytes_decides own mine).0 may ∙ (bytes_decides mine path).0 on)
    by_path (Params.Create mine mode) None own on may = cc
    by_path _ path own on may = cc
on_same path p _ on may = refl

-- what may stand in the place of what fits fits too
fits_instead : (operation : Operation) (path : Option (List ℕ)) (p q : Params) → fit operation path p ≡ true → may_replace p q ≡ true
    → fit operation path q ≡ true
fits_instead operation path p q fits may =
    let was = and_parts (are_for operation path p) (is_within_limits p) fits in
    let kind = and_parts (same_operation (operation_of p) operation) (are_on path p) was.0 in
    let is = and_parts (are_for (operation_of p) (path_of p) q) (is_within_limits q) may in
    let same = and_parts (same_operation (operation_of q) (operation_of p)) (are_on (path_of p) q) is.0 in
    let bits : operation_bit (operation_of q) ≡ operation_bit operation =
    eqb-true (operation_bit (operation_of q)) (operation_bit (operation_of p)) same.0
    ∙ eqb-true (operation_bit (operation_of p)) (operation_bit operation) kind.0 in
    and_from (are_for operation path q) (is_within_limits q)
    (and_from (same_operation (operation_of q) operation) (are_on path q)
    (eq-eqb (operation_bit (operation_of q)) (operation_bit operation) bits) (on_same path p q kind.1 same.1)) is.1

change_fits : (operation : Operation) (path : Option (List ℕ)) (p : Params) (changed : Option Params) → fit operation path p ≡ true
    → change_passes (may_replace p) changed ≡ true
    → change_passes (fit operation path) changed ≡ true
change_fits operation path p None fits may = refl
change_fits operation path p (Some q) fits may = fits_instead operation path p q fits may

short : (n : ℕ) → n ≤ 32768 → nat_le n 32768 ≡ true
short n h = grind (arith, nat_tests, h)

-- data that received what was given, and keeps its laws
pub fits_back : (operation : Operation) (path : Option (List ℕ)) (p : Params) (back : Data) → fit operation path p ≡ true
    → back.received ≡ p → IsData back → data_fits operation path back ≡ true
fits_back operation path p back fits same laws =
    let received : fit operation path back.received ≡ true = ap (fit operation path) same ∙ fits in
    and_from (fit operation path back.received) (change_passes (fit operation path) back.changed && nat_le (length back.out) 32768) received
    (and_from (change_passes (fit operation path) back.changed) (nat_le (length back.out) 32768)
    (change_fits operation path back.received back.changed received laws.change) (short (length back.out) laws.size))

same_itself : (path : Option (List ℕ)) → same_path path path ≡ true
same_itself None = refl
same_itself (Some path) = (bytes_decides path path).1 refl

-- the call that the base was given, and a call with an answer that isn't too long
pub call_fitting : (r : FlowRecord) (p : Params) → fit r.operation r.path p ≡ true → call_fits r.operation r.volume r.path (call_of r p) ≡ true
call_fitting r p fits =
    and_from (r.volume.0 == r.volume.0) (same_path r.path r.path && fit r.operation r.path p) (eq-eqb r.volume.0 r.volume.0 refl)
    (and_from (same_path r.path r.path) (fit r.operation r.path p) (same_itself r.path) fits)

pub call_answered : (r : FlowRecord) (call : BaseCall) (answer : Answer) → call_fits r.operation r.volume r.path call ≡ true
    → length answer.bytes ≤ 32768 → base_fits call answer r ≡ true
call_answered r call answer fits size = and_from (call_fits r.operation r.volume r.path call) (nat_le (length answer.bytes) 32768) fits
    (short (length answer.bytes) size)

pub call_back : (r : FlowRecord) (p : Params) (answer : Answer) → fit r.operation r.path p ≡ true → length answer.bytes ≤ 32768
    → base_fits (call_of r p) answer r ≡ true
call_back r p answer fits size = call_answered r (call_of r p) answer (call_fitting r p fits) size
