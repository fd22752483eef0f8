use Rattle.std.proofs.Common.{◌≡◌, length, encode_utf8, refl, ap, lit<, arith}
use Rattle.arrayvec.specs.ArrayString.{array_string_len}
use Rattle.commands.proofs.print.text_of.Goals.{in-Granted, in-Refused, in-At, in-Hole, in-NextAt, in-NoNext, in-Held}
use Rattle.commands.proofs.print.text_of.Goals as goal

pub add-requires-in-At-2 : goal.add-requires-in-At-2
add-requires-in-At-2 c = omega (arith, ap length c.new-text.ensures, c.add-in-At.ensures.short)

pub push-requires : goal.push-requires
unfolding lib.Utf8.encode
push-requires c =
    let e = ap length c.new-text.ensures in
    let one : length (encode_utf8 10) ≡ 1 = refl in (
      lit< tt,
      elim c.match-reply.branch [
        | in-Granted w ↦ omega (arith, ap array_string_len w.text-is, w.add.ensures.short)
        | in-Refused w ↦ omega (arith, ap array_string_len w.text-is, w.add-in-Refused.ensures.short)
        | in-At w ↦ omega (arith, ap array_string_len w.text-is, w.add-in-At.ensures.short, w.add-in-At-2.ensures.short)
        | in-Hole w ↦ omega (arith, ap array_string_len w.text-is, w.add-in-Hole.ensures.short)
        | in-NextAt w ↦ omega (arith, ap array_string_len w.text-is, w.add-in-NextAt.ensures.short)
        | in-NoNext w ↦ omega (arith, ap array_string_len w.text-is, w.push_str.ensures.len)
        | in-Held w ↦ omega (arith, ap array_string_len w.text-is, w.add-in-Held.ensures.short)
      ],
    )
