-- Bytes are a command's exactly if the command is parsed from them.
use Rattle.script_commands.proofs.Forms.{command_of-Some, command_of-AreBytesOf}
use Rattle.script_commands.proofs.reading.commands_have_one_text.Goals as goal

pub returns : goal.returns
returns c = λ bytes command. (command_of-Some bytes command, command_of-AreBytesOf bytes command)
