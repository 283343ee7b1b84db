-- What threads share beside a manager.
use denote.Struct.Field.{u32-field}
use denote.Param.Send.{IsSync, sendable}

pub numbers_shared : IsSync (u32-field).row
numbers_shared = search sendable
